-- What the words after the program's name ask of a run between an input and an output. This project's profile.
use Rattle.std.specs.Prelude.{◌≡◌, List, Bool, true, false, map, string_bytes, String, Option, None, Some, option_and_then}
use Rattle.std.specs.Global.{Global}
use Rattle.lei_code.specs.Texts.{Text}
use Rattle.program_words.specs.Words.{Invocation, meant_run, to_answer_lines, to_check, to_make_digits, to_make_up, to_mirror, to_patch, to_report, to_search, to_serve}

-- An invocation that runs between an input and an output: any except to serve, which has doors instead.
abbrev pub unless_serving : Invocation → Option Invocation
unless_serving to_answer_lines = Some to_answer_lines
unless_serving to_serve = None
unless_serving (to_patch sheet form) = Some (to_patch sheet form)
unless_serving (to_search form) = Some (to_search form)
unless_serving to_mirror = Some to_mirror
unless_serving (to_report who form) = Some (to_report who form)
unless_serving (to_check text) = Some (to_check text)
unless_serving (to_make_digits text) = Some (to_make_digits text)
unless_serving (to_make_up records) = Some (to_make_up records)

-- What the words ask for, or nothing if they aren't a command of such a run.
abbrev pub invocation_in : List Text → Option Invocation
invocation_in words = option_and_then (λ what. unless_serving what.invocation) (meant_run words)

-- The command reads its first input.
abbrev pub reads_input : Invocation → Bool
reads_input to_answer_lines = true
reads_input to_serve = false
reads_input (to_patch sheet form) = true
reads_input (to_search form) = true
reads_input to_mirror = true
reads_input (to_report who form) = true
reads_input (to_check text) = false
reads_input (to_make_digits text) = false
reads_input (to_make_up records) = false

-- The command reads its second input.
abbrev pub reads_second : Invocation → Bool
reads_second to_answer_lines = false
reads_second to_serve = false
reads_second (to_patch sheet form) = true
reads_second (to_search form) = true
reads_second to_mirror = false
reads_second (to_report who form) = true
reads_second (to_check text) = false
reads_second (to_make_digits text) = false
reads_second (to_make_up records) = false

-- The words of a command line ask for this.
abbrev pub Mean : List (String Global) → Invocation → Type 0
Mean words what = invocation_in (map string_bytes words) ≡ Some what
