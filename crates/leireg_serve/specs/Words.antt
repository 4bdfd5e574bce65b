-- What the words after the program's name ask a server to do. This project's profile.
use Rattle.std.specs.Prelude.{◌≡◌, List, map, string_bytes, String, Option, None, Some, option_and_then}
use Rattle.std.specs.Global.{Global}
use Rattle.lei_code.specs.Texts.{Text}
use Rattle.program_words.specs.Words.{Invocation, Meant, meant_run, to_answer_lines, to_check, to_make_digits, to_make_up, to_mirror, to_patch, to_report, to_search, to_serve}

-- What is meant, if the invocation is to serve.
abbrev pub if_serving : Invocation → Meant → Option Meant
if_serving to_answer_lines what = None
if_serving to_serve what = Some what
if_serving (to_patch sheet form) what = None
if_serving (to_search form) what = None
if_serving to_mirror what = None
if_serving (to_report who form) what = None
if_serving (to_check text) what = None
if_serving (to_make_digits text) what = None
if_serving (to_make_up records) what = None

-- What a server is asked to do, or nothing if the words aren't a server's command.
abbrev pub served_by : List Text → Option Meant
served_by words = option_and_then (λ what. if_serving what.invocation what) (meant_run words)

-- The words of a command line ask a server for this.
abbrev pub MeanServing : List (String Global) → Meant → Type 0
MeanServing words what = served_by (map string_bytes words) ≡ Some what
