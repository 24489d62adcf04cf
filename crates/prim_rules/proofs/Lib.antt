pub use Rattle.object_programs.proofs as object_programs_lemmas
pub use Rattle.object_programs.proofs.gem_world_lemmas as gem_world_lemmas
pub use Rattle.object_programs.proofs.gem_image_lemmas as gem_image_lemmas
pub use Rattle.gem_object.proofs as gem_object_lemmas
pub use Rattle.gem_object.proofs.insertion_map_lemmas as insertion_map_lemmas
pub use Rattle.gem_object.proofs.rc_counter_bag_lemmas as rc_counter_bag_lemmas
pub use Rattle.gem_object.proofs.rc_dict_lemmas as rc_dict_lemmas
pub use Rattle.gem_object.proofs.rc_queue_lemmas as rc_queue_lemmas
pub use Rattle.gem_object.proofs.seg_rights_lemmas as seg_rights_lemmas
pub use Rattle.object_programs.proofs.radix_pages_lemmas as radix_pages_lemmas
pub use Rattle.object_programs.proofs.gem_update_lemmas as gem_update_lemmas
pub use Rattle.object_programs.proofs.gem_sound_lemmas as gem_sound_lemmas
pub use Rattle.object_programs.proofs.st_grammar_laws_lemmas as st_grammar_laws_lemmas
pub use Rattle.object_programs.proofs.st_tree_lemmas as st_tree_lemmas
pub use Rattle.object_programs.proofs.op_table_lemmas as op_table_lemmas
pub mod Performed
pub mod Pairs
pub mod Printed
pub mod Ascending
pub mod Sizes
pub mod Division
pub mod Bits
pub mod Shifts
pub mod Moves
