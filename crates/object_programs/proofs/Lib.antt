pub use Rattle.gem_world.proofs as gem_world_lemmas
pub use Rattle.gem_world.proofs.gem_image_lemmas as gem_image_lemmas
pub use Rattle.gem_object.proofs as gem_object_lemmas
pub use Rattle.gem_object.proofs.insertion_map_lemmas as insertion_map_lemmas
pub use Rattle.gem_object.proofs.rc_counter_bag_lemmas as rc_counter_bag_lemmas
pub use Rattle.gem_object.proofs.rc_dict_lemmas as rc_dict_lemmas
pub use Rattle.gem_object.proofs.rc_queue_lemmas as rc_queue_lemmas
pub use Rattle.gem_object.proofs.seg_rights_lemmas as seg_rights_lemmas
pub use Rattle.gem_world.proofs.radix_pages_lemmas as radix_pages_lemmas
pub use Rattle.gem_world.proofs.gem_update_lemmas as gem_update_lemmas
pub use Rattle.gem_sound.proofs as gem_sound_lemmas
pub use Rattle.gem_sound.proofs.st_grammar_laws_lemmas as st_grammar_laws_lemmas
pub use Rattle.gem_sound.proofs.st_tree_lemmas as st_tree_lemmas
pub use Rattle.gem_sound.proofs.op_table_lemmas as op_table_lemmas
pub mod Worlds
pub mod Kept
pub mod Falling
pub mod Guards
pub mod Bases
pub mod Frame
pub mod Sames
pub mod Objects
pub mod Reach
pub mod Told
pub mod Written
pub mod Orders
pub mod Exact
pub mod Spells
pub mod MethodRules
pub mod Rules
pub mod Admits
pub mod AtPlace
