-- A walk from the registers of a context that was read.
use Rattle.std.proofs.Common.{◌≡◌, List, Result, Ok, subst}
use Rattle.minidump.specs.declared.refusal.DumpErr.{DumpErr}
use Rattle.minidump.specs.declared.structures.Context.{Context}
use Rattle.seh_views.specs.declared.c_types.SehContext.{SehContext}
use Rattle.seh_views.specs.declared.c_types.SehFrame.{SehFrame}
use Rattle.seh_views.specs.declared.c_types.SehRange.{SehRange}
use Rattle.seh_views.specs.declared.c_types.SehView.{SehView}
use Rattle.seh_views.specs.declared.walking.Walk.{Walk}
use Rattle.seh_views.specs.Modules.{StackWalked}
use Rattle.dump_stacks.specs.Stacks.{registers_of, ThreadAnswers}

pub thread_walked : (vs : List SehView) (rs : List SehRange) (r : Result Context DumpErr)
    (c : Context) (s : SehContext) (old new : List SehFrame) (w : Walk) → Ok c ≡ r
    → s ≡ registers_of c → StackWalked vs rs s old new w
    → ThreadAnswers vs rs r old new (Ok w)
thread_walked vs rs r c s old new w read is walked =
    subst (λ x. ThreadAnswers vs rs x old new (Ok w)) read
    (subst (λ x. StackWalked vs rs x old new w) is walked)
