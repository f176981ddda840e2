pub mod Requests
pub mod KeyPlaces
pub mod Notes
pub mod Notebook
pub mod BankSets
