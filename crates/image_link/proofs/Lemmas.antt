-- The lemmas of the crates below that files of this crate cite.
pub use Rattle.template_code.proofs.Sizes.{sizes_append, sizes_spelled, body_sizes}
pub use Rattle.x64_emit.proofs.Nearby.{instruction_in_room, code_in_room, all_at, label_added, on_ok, spelled_both, stepped}
