pub mod NumeralLaws
pub mod Numerals
pub mod NumeralsCases
