pub mod OneRoom
pub mod NoPairs
pub mod Order
