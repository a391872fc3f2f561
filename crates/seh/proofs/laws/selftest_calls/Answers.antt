use Rattle.seh.proofs.SelftestCalls.{selftest_reads_nothing, selftest_is_complete, selftest_is_meant}
use Rattle.seh.proofs.laws.selftest_calls.Goals as goal

pub returns : goal.returns
returns c = record {
  unread = selftest_reads_nothing;
  complete = selftest_is_complete;
  meant = selftest_is_meant;
}
