pub use Rattle.texts.specs as texts
pub use Rattle.insertion_map.specs as insertion_map
pub use Rattle.gem_value.specs as gem_value
pub use Rattle.rc_counter_bag.specs as rc_counter_bag
pub use Rattle.rc_dict.specs as rc_dict
pub use Rattle.rc_queue.specs as rc_queue
pub use Rattle.seg_rights.specs as seg_rights
pub mod Order
pub mod References
pub mod Kinds
pub mod Slots
pub mod Sizes
pub mod Spelling
pub mod Edits
