use Rattle.match_stack.proofs.SearchHandlers.{search_is_the_lists, search_continues}
use Rattle.match_stack.proofs.search_laws.laws.Goals as goal

pub returns : goal.returns
returns c = record { searched = search_is_the_lists; onward = search_continues }
