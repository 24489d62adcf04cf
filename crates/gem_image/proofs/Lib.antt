pub use Rattle.gem_object.proofs as gem_object_lemmas
pub use Rattle.gem_object.proofs.insertion_map_lemmas as insertion_map_lemmas
pub use Rattle.gem_object.proofs.rc_counter_bag_lemmas as rc_counter_bag_lemmas
pub use Rattle.gem_object.proofs.rc_dict_lemmas as rc_dict_lemmas
pub use Rattle.gem_object.proofs.rc_queue_lemmas as rc_queue_lemmas
pub use Rattle.gem_object.proofs.seg_rights_lemmas as seg_rights_lemmas
pub use Rattle.radix_pages.proofs as radix_pages_lemmas
mod Agreement
mod Given
mod Objects
mod Puts
