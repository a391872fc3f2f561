-- The hasher of the names of a text.
use Rattle.std.specs.Prelude.{ℕ, List}
use Rattle.std.specs.Hash.DefaultHasher as sip
use Rattle.c_expressions.specs.declared.text_hasher.TextHasher.{TextHasher}

-- SipHash with both keys 0, to which the text was written
abbrev pub hasher_of : List ℕ → TextHasher
hasher_of text = record { after_text = sip.write sip.initial text }
