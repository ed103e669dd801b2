-- what the pricer asks
pub mod Pricer
