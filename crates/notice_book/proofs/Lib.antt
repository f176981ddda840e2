pub mod RisingNumbers
