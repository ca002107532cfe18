pub mod Accepted
pub mod Cases
pub mod RoundTrip
