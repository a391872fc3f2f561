-- What a proof opens, by `unfolding computed_image`, to compute the run of an image made by hand.
use Rattle.std.specs.Prelude.{ℕ}
use Rattle.flat_memory.specs.Memory.{first_refused, number_at, with_number, executable}
use Rattle.x64_instr.specs.Operands.{place}
use Rattle.x64_instr.specs.Spelling.{instr, after_size, after_prefixes, row, plain_row, two_byte_row}
use Rattle.x64_machine.specs.Effect.{step}
use Rattle.x64_machine.specs.Words.{added, subtracted, multiplied}
use Rattle.pe_image.specs.Imports.{library, libraries}
use Rattle.pe_image.specs.Numbers.{u16, u32, u64, zeros}
use Rattle.pe_image.specs.Reading.{headers, outline, reading}
use Rattle.eh_tables.specs.Codes.{operation}
use Rattle.eh_tables.specs.Handler.{is_c_handler}
use Rattle.eh_tables.specs.Infos.{stored_info, stored_scope_records, info}
use Rattle.eh_tables.specs.Tables.{directory, entry}
use Rattle.virtual_unwind.specs.CallerOf.{caller_in}
use Rattle.virtual_unwind.specs.Tail.{fetched_at, tail, tail_at}
use Rattle.seh_records.specs.Record.{words, misplaced, placed, fetched}
use Rattle.seh_records.specs.Words.{with_block, words_at}
use Rattle.seh_walk.specs.Walk.{visited}
use Rattle.seh_search.specs.Search.{search}
use Rattle.seh_unwind.specs.Unwind.{unwind}
use Rattle.host_model.specs.HostStep.{turn}
use Rattle.host_model.specs.Loading.{mapped, start}
use Rattle.host_model.specs.Machine.{run, machine}
use Rattle.host_model.specs.Worked.{image_of, fourteen, leaving}
use Rattle.host_model.specs.Images.{image, filter_and_finally_text, continued_raise_text, continued_in_vain_text, accepted_fault_text, local_unwind_text, raising_filter_text, raise_in_finally_text, continued_access_text, vectored_handler_text, vectored_in_vain_text}

unfoldable pub computed_image : ℕ
unfolding libraries operation fetched_at tail_at first_refused number_at with_number executable
    place instr after_size after_prefixes row plain_row two_byte_row added subtracted multiplied
    step headers outline reading library directory entry stored_info stored_scope_records info
    is_c_handler mapped start caller_in visited tail search unwind with_block words_at words
    misplaced placed fetched turn run machine u16 u32 u64 zeros image_of fourteen leaving image
    filter_and_finally_text continued_raise_text continued_in_vain_text accepted_fault_text
    local_unwind_text raising_filter_text raise_in_finally_text continued_access_text
    vectored_handler_text vectored_in_vain_text
computed_image = 0
