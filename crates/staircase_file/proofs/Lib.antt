pub mod TableMade
