use Rattle.std.proofs.Common.{[], sym}
use Rattle.std.proofs.Math.Facts.{to_z-of_z}
use Rattle.c_lex.proofs.Quotes.{quote_found, quote_alone}
use Rattle.c_lex.proofs.character.quoted.Goals as goal

pub returns-in-Some : goal.returns-in-Some
returns-in-Some c = rw (to_z-of_z c.in-Some.ensures.fits)
    (quote_found c.args.text.now c.in-Some.rest.now c.in-Some.value (sym c.in-Some.ensures.value))

pub returns-in-None : goal.returns-in-None
returns-in-None c = ([], quote_alone c.args.text.now (sym c.in-None.ensures.value))
