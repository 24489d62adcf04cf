pub use Rattle.gem_world.specs as gem_world
pub use Rattle.gem_image.specs as gem_image
pub use Rattle.gem_object.specs as gem_object
pub use Rattle.gem_object.specs.texts as texts
pub use Rattle.gem_object.specs.insertion_map as insertion_map
pub use Rattle.gem_object.specs.gem_value as gem_value
pub use Rattle.gem_object.specs.rc_counter_bag as rc_counter_bag
pub use Rattle.gem_object.specs.rc_dict as rc_dict
pub use Rattle.gem_object.specs.rc_queue as rc_queue
pub use Rattle.gem_object.specs.seg_rights as seg_rights
pub use Rattle.gem_image.specs.radix_pages as radix_pages
pub use Rattle.gem_update.specs as gem_update
pub mod Names
pub mod RunNames
pub mod Record
pub mod History
pub mod Effects
pub mod Stored
