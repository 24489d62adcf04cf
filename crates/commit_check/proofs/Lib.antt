pub use Rattle.gem_record.proofs as gem_record_lemmas
pub use Rattle.gem_record.proofs.gem_world_lemmas as gem_world_lemmas
pub use Rattle.gem_image.proofs as gem_image_lemmas
pub use Rattle.gem_object.proofs as gem_object_lemmas
pub use Rattle.gem_object.proofs.insertion_map_lemmas as insertion_map_lemmas
pub use Rattle.gem_object.proofs.rc_counter_bag_lemmas as rc_counter_bag_lemmas
pub use Rattle.gem_object.proofs.rc_dict_lemmas as rc_dict_lemmas
pub use Rattle.gem_object.proofs.rc_queue_lemmas as rc_queue_lemmas
pub use Rattle.gem_object.proofs.seg_rights_lemmas as seg_rights_lemmas
pub use Rattle.gem_image.proofs.radix_pages_lemmas as radix_pages_lemmas
pub use Rattle.gem_update.proofs as gem_update_lemmas
pub use Rattle.lock_table.proofs as lock_table_lemmas
mod Added
mod Entries
pub mod Listed
pub mod Members
pub mod MergedObjects
pub mod Ordered
mod Sorted
pub mod Stood
mod Unions
pub mod Used
