-- What the answers say in the rules' terms.
pub mod Found
