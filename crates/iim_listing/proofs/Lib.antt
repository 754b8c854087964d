pub mod Words
pub mod Listings
pub mod StoryWriting
pub mod StoryWriters
pub mod Taken
