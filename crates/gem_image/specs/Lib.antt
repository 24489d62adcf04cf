pub use Rattle.gem_object.specs as gem_object
pub use Rattle.gem_object.specs.texts as texts
pub use Rattle.gem_object.specs.insertion_map as insertion_map
pub use Rattle.gem_object.specs.gem_value as gem_value
pub use Rattle.gem_object.specs.rc_counter_bag as rc_counter_bag
pub use Rattle.gem_object.specs.rc_dict as rc_dict
pub use Rattle.gem_object.specs.rc_queue as rc_queue
pub use Rattle.gem_object.specs.seg_rights as seg_rights
pub use Rattle.radix_pages.specs as radix_pages
pub mod Image
pub mod Rights
