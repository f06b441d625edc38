-- What the public calls promise.
pub mod Calls
pub mod Checks
pub mod DryRuns
pub mod GivenTexts
pub mod ImageRequests
pub mod ImageSizes
pub mod PowerOns
pub mod ProgramNames
pub mod Report
pub mod Shells
pub mod Formats
pub mod StandardInput
pub mod Table
pub mod Values
pub mod WantedCopies
pub mod WordFaults
pub mod Words
