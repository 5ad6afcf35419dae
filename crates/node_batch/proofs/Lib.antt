pub mod Pushed
pub mod RunMails
pub mod Kept
pub mod Takes
pub mod Blank
pub mod Noted
pub mod Ended
pub mod Sames
