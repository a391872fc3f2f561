use Rattle.match_stack.proofs.SearchTurns.{search_turns}
use Rattle.match_stack.proofs.UnwindTurns.{unwind_turns}
use Rattle.match_stack.proofs.Asking.{ask_turns}
use Rattle.match_stack.proofs.turn_laws.laws.Goals as goal

pub returns : goal.returns
returns c = record { asks = ask_turns; searches = search_turns; unwindings = unwind_turns }
