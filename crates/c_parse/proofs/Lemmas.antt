-- The lemmas of the crates below that files of this crate cite.
pub use Rattle.c_lex.proofs.Covering.{ranges_rise, few_tokens}
pub use Rattle.c_syntax.proofs.Declarations.{name_star, name_type}
pub use Rattle.c_syntax.proofs.Failing.{append_append, alike_same, alike_inner, first_after, wrapped}
pub use Rattle.c_syntax.proofs.Files.{parameters, literal_class, constant_once, constants, assign_not, brace_not, other_punctuator, global_once, globals_stop, initialiser_stops, length_once, globals_type, apart, parameter_once, parameter_front, void_not, external_declaration_once, external_declaration_front, program_once}
pub use Rattle.c_syntax.proofs.Fronts.{has_same, punctuator_same, front, name_same, stars_once, base_once, base_front, stars_front, NoType, keyword_same}
pub use Rattle.c_syntax.proofs.Once.{integer_same, has_front}
