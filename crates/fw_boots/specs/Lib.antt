-- What the public calls promise.
pub mod Cuts
pub mod PowerOns
pub mod Boots
