mod TableLemmas
mod SameNumbers
