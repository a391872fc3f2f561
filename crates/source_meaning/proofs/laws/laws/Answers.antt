use Rattle.source_meaning.proofs.MoreSteps.{shows_more, end_stays, calm_before, events_grow}
use Rattle.source_meaning.proofs.RemainingSteps.{does_is, never_rises}
use Rattle.source_meaning.proofs.laws.laws.Goals as goal

pub returns : goal.returns
returns c =
    record {
      does_is = does_is;
      never_rises = never_rises;
      shows_more = shows_more;
      end_stays =
          end_stays;
      calm_before = calm_before;
      events_grow = events_grow;
    }
