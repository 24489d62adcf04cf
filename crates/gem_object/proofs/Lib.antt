pub use Rattle.insertion_map.proofs as insertion_map_lemmas
pub use Rattle.rc_counter_bag.proofs as rc_counter_bag_lemmas
pub use Rattle.rc_dict.proofs as rc_dict_lemmas
pub use Rattle.rc_queue.proofs as rc_queue_lemmas
pub use Rattle.seg_rights.proofs as seg_rights_lemmas
mod Equality
pub mod Joined
pub mod Ties
mod Sums
mod Names
mod Rooms
