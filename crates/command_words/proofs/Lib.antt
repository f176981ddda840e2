pub mod VerbNames
