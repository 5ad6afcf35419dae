mod Listing
mod Installing
mod Sharing
