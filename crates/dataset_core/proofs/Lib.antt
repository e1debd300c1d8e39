mod Labelling
mod Shared
mod Rooms
mod Making
mod InGroups
