pub use Rattle.gem_image.specs as gem_image
pub use Rattle.gem_image.specs.gem_object as gem_object
pub use Rattle.gem_image.specs.texts as texts
pub use Rattle.gem_image.specs.insertion_map as insertion_map
pub use Rattle.gem_image.specs.gem_value as gem_value
pub use Rattle.gem_image.specs.rc_counter_bag as rc_counter_bag
pub use Rattle.gem_image.specs.rc_dict as rc_dict
pub use Rattle.gem_image.specs.rc_queue as rc_queue
pub use Rattle.gem_image.specs.seg_rights as seg_rights
pub use Rattle.gem_image.specs.radix_pages as radix_pages
pub use Rattle.gem_update.specs as gem_update
pub mod World
pub mod Access
pub mod Changes
