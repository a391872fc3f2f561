-- The lemmas of the crates below that files of this crate cite.
pub use Rattle.c_syntax.proofs.Blocks.{begins, item_class, item_begins, class_low, brace_begins, items_else, typed_begins, one_statement, absent, while_else, keyword_begins, punctuator_begins, kind_begins, word, same_items}
pub use Rattle.c_syntax.proofs.Declarations.{locals_stop, name_star, locals_type, optional_front, optional}
pub use Rattle.c_syntax.proofs.Failing.{first_keeps, alike_inner, alike_same, first_after, first_same, wrapped, append_append, append_nothing}
pub use Rattle.c_syntax.proofs.Firsts.{first_back, no_punctuator, no_keyword, same_begins, no_base, closed}
pub use Rattle.c_syntax.proofs.Fronts.{keyword_class, punctuator_class, kind_class, front, base_front, has_same, punctuator_same, name_same, stars_once, kind_same, keyword_same, increment_class, unary_class}
pub use Rattle.c_syntax.proofs.Moves.{Moves, has_punctuator, has_keyword, both, derives, stars, name, alike_after, kind, map, nothing, base}
pub use Rattle.c_syntax.proofs.MovesStatements.{condition, items, filter, item}
pub use Rattle.c_syntax.proofs.Once.{expression_front, one_expression, rank_low, has_stops, has_front}
pub use Rattle.c_syntax.proofs.Spine.{levels, step_follows, run_height, follows_punctuator, spine}
