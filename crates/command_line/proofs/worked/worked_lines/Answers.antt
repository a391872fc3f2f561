use Rattle.std.proofs.Common.{refl, arith}
use Rattle.std.specs.Fmt.{digits}
use Rattle.clap.proofs.OnLiterals.{clap_on_literals}
use Rattle.command_line.specs.Worked.{CompileAlone, ShowAlone, CheckAlone, CheckOfEach, EachTwice, ExecAlone, ExecWithAll, RunWithTurns, MeaningWithTrace, SelftestOfOne, SelftestOfNone}
use Rattle.command_line.proofs.worked.worked_lines.Goals as goal

compile_alone : CompileAlone
unfolding clap_on_literals digits
compile_alone = (refl, (_, refl, refl))

show_alone : ShowAlone
unfolding clap_on_literals digits
show_alone = (refl, (_, refl, refl))

check_alone : CheckAlone
unfolding clap_on_literals digits
check_alone = (refl, (_, refl, (refl, refl)))

check_of_each : CheckOfEach
unfolding clap_on_literals digits
check_of_each = (refl, (_, refl, (refl, refl)))

each_twice : EachTwice
unfolding clap_on_literals digits
each_twice command h = let q = h.0 in cc

exec_alone : ExecAlone
unfolding clap_on_literals digits
exec_alone = (
  refl,
  (
    _,
    refl,
    (
      refl,
      record {
        turns = refl;
        argument = (0, refl, refl);
        trace = refl;
      },
    ),
  ),
)

exec_with_all : ExecWithAll
unfolding clap_on_literals digits
exec_with_all = (
  refl,
  (
    _,
    refl,
    (
      refl,
      record {
        turns = (refl, omega arith);
        argument = (9, (refl, omega arith), refl);
        trace = refl;
      },
    ),
  ),
)

run_with_turns : RunWithTurns
unfolding clap_on_literals digits
run_with_turns = (
  refl,
  (
    _,
    refl,
    (
      refl,
      record {
        turns = (refl, omega arith);
        argument = (0, refl, refl);
        trace = refl;
      },
    ),
  ),
)

meaning_with_trace : MeaningWithTrace
unfolding clap_on_literals digits
meaning_with_trace = (
  refl,
  (
    _,
    refl,
    (
      refl,
      record {
        turns = refl;
        argument = (0, refl, refl);
        trace = refl;
      },
    ),
  ),
)

selftest_of_one : SelftestOfOne
unfolding clap_on_literals digits
selftest_of_one = (refl, (_, refl, (refl, (refl, omega arith))))

selftest_of_none : SelftestOfNone
unfolding clap_on_literals digits
selftest_of_none command h = let q = h.0 in cc

pub returns : goal.returns
returns c = record {
  compile = compile_alone;
  show = show_alone;
  check = check_alone;
  each = check_of_each;
  twice = each_twice;
  exec = exec_alone;
  options = exec_with_all;
  run = run_with_turns;
  meaning = meaning_with_trace;
  selftest = selftest_of_one;
  numberless = selftest_of_none;
}
