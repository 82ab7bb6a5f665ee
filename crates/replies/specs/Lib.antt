-- What the exported functions promise. Nothing is assumed.
--     Served     the number that is returned, and the lists as they are left
--     Opened     the map of a file after its checks
--     Replies    the rules and the values of each function
--     Orders     the order of the rules of each function, as numbers
--     Chains     calls one after another, whatever number each returned
--     Actions    .. with removals among them
pub mod Served
pub mod Opened
pub mod Replies
pub mod Orders
pub mod Chains
pub mod Actions
