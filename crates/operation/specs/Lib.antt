pub mod Algebra
pub mod Pair
pub mod Residues
pub mod Total
pub mod Bits
pub mod Numbers
pub mod ResiduesLemmas
