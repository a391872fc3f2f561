-- What is read of an info is read of its header and slots alone.
use Rattle.std.proofs.Common.{◌≡◌, ℕ, ◌+◌, ◌*◌, ◌/◌, ◌%◌, List, take, drop, ap, sym, ◌∙◌, arith}
use Rattle.std.specs.Prelude.{if◌then◌else◌, ◌==◌}
use Rattle.std.proofs.lemmas.List.{get_or-take, drop-take, take-take}
use Rattle.eh_tables.specs.Infos.{version, slot_count, slots_of, slots_end}
use Rattle.eh_tables.specs.EitherInfos.{leading, epilogue_slots}
use Rattle.eh_tables.specs.declared.layout.TheConstants.{UNWIND_VERSION_2}

module _ (bytes : List ℕ) where
  abbrev kept : List ℕ
  kept = take (slots_end bytes) bytes

  pub version_kept : version bytes ≡ version kept
  version_kept = ap (λ n. n % 8) (sym (get_or-take (slots_end bytes) bytes 0 0 (omega arith)))

  count_kept : slot_count kept ≡ slot_count bytes
  count_kept = get_or-take (slots_end bytes) bytes 2 0 (omega arith)

  slots_kept : slots_of bytes ≡ slots_of kept
  slots_kept =
      let n = 2 * slot_count bytes in
      let rest = 4 * ((slot_count bytes + 1) / 2) in
      sym (ap (λ c. take (2 * c) (drop 4 kept)) count_kept
      ∙ ap (take n) (drop-take 4 rest bytes)
      ∙ take-take n rest (drop 4 bytes) (omega arith))

  pub epilogues_kept : epilogue_slots bytes ≡ epilogue_slots kept
  epilogues_kept =
      ap (λ v. take (2 * (if v == UNWIND_VERSION_2 then leading (slots_of bytes) else 0))
      (slots_of bytes)) version_kept
      ∙ ap (λ xs. take (2 * (if version kept == UNWIND_VERSION_2 then leading xs else 0)) xs)
      slots_kept
