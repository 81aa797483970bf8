mod Ids
mod Rated
mod Entries
mod Behind
