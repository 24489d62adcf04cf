pub use Rattle.gem_image.proofs as gem_image_lemmas
pub use Rattle.gem_image.proofs.gem_object_lemmas as gem_object_lemmas
pub use Rattle.gem_image.proofs.insertion_map_lemmas as insertion_map_lemmas
pub use Rattle.gem_image.proofs.rc_counter_bag_lemmas as rc_counter_bag_lemmas
pub use Rattle.gem_image.proofs.rc_dict_lemmas as rc_dict_lemmas
pub use Rattle.gem_image.proofs.rc_queue_lemmas as rc_queue_lemmas
pub use Rattle.gem_image.proofs.seg_rights_lemmas as seg_rights_lemmas
pub use Rattle.gem_image.proofs.radix_pages_lemmas as radix_pages_lemmas
pub use Rattle.gem_update.proofs as gem_update_lemmas
mod Touches
mod Shown
mod Accesses
mod Alone
mod Before
