pub use Rattle.gem_image.proofs as gem_image_lemmas
pub use Rattle.gem_object.proofs as gem_object_lemmas
pub use Rattle.gem_object.proofs.insertion_map_lemmas as insertion_map_lemmas
pub use Rattle.gem_object.proofs.rc_counter_bag_lemmas as rc_counter_bag_lemmas
pub use Rattle.gem_object.proofs.rc_dict_lemmas as rc_dict_lemmas
pub use Rattle.gem_object.proofs.rc_queue_lemmas as rc_queue_lemmas
pub use Rattle.gem_object.proofs.seg_rights_lemmas as seg_rights_lemmas
pub use Rattle.gem_image.proofs.radix_pages_lemmas as radix_pages_lemmas
pub use Rattle.st_grammar_laws.proofs as st_grammar_laws_lemmas
pub use Rattle.st_tree.proofs as st_tree_lemmas
pub use Rattle.op_table.proofs as op_table_lemmas
mod Numbered
mod Kept
