-- Laws of listing and deciding.
pub mod Lists
pub mod Succession
pub mod AsWork
pub mod Listings
pub mod Decidings
pub mod Cases
