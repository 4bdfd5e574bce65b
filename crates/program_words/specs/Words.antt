-- Words: what the words after the program's name ask for. This project's profile.
use Rattle.std.specs.Prelude.{◌≡◌, ◌≤◌, ℕ, List, [], ◌∷◌, codes, if◌then◌else◌, Option, Some, None, option_map, option_and_then}
use Rattle.std.specs.Str.{bytes_eq}
use Rattle.register_words.specs.declared.sheets.Form.{Form}
use Rattle.register_words.specs.declared.sheets.Sheet.{Sheet}
use Rattle.lei_code.specs.Texts.{Text}
use Rattle.register_words.specs.Words.{form_named, number_within, sheet_named}
use Rattle.clap.specs.Walk.{Row, first_of}
use Rattle.program_words.specs.Commands.{apply_app, check_app, demo_app, digits_app, group_app, lines_app, mirror_app, read_by, search_app, serve_app}
use Rattle.program_words.specs.declared.runs.Command.{Command}
use Rattle.program_words.specs.declared.runs.Command.TheVariants as commands
use Rattle.program_words.specs.declared.runs.WantedRun.{WantedRun}

-- What the program may be asked to do. It may answer the lines of the input, or answer over HTTP. It may patch a copy
-- of this sheet and form by a delta, or search the names of a copy of this form. It may mirror the tables of a
-- register. It may report on the group of an entity, or on all, from two copies of this form. It may say whether a text
-- is an LEI, compute the check digits for a text, or generate a register with this many records.
pub data Invocation : Type 0 where
  to_answer_lines : Invocation
  to_serve : Invocation
  to_patch : Sheet → Form → Invocation
  to_search : Form → Invocation
  to_mirror : Invocation
  to_report : Text → Form → Invocation
  to_check : Text → Invocation
  to_make_digits : Text → Invocation
  to_make_up : ℕ → Invocation

-- What is to be done, and with what: the path of a store, and the paths of a first and of a second file. For a server
-- there are also its port, its number of workers and how many connections each worker takes. A number that isn't given
-- is 0.
pub record Meant : Type 0 where
  pub invocation : Invocation
  pub store : Option Text
  pub first : Option Text
  pub second : Option Text
  pub port : ℕ
  pub workers : ℕ
  pub connections : ℕ

-- an invocation without any further argument
abbrev pub only : Invocation → Meant
only invocation = record {
  invocation = invocation;
  store = None;
  first = None;
  second = None;
  port = 0;
  workers = 0;
  connections = 0;
}

-- ---- what each command means, by the texts under its names

-- Lines are answered from a store, if a path is given: any text, including the empty one.
abbrev pub lines_meant : List Row → Option Meant
lines_meant rows = Some (record (only to_answer_lines) { store = first_of (codes "store") rows })

-- the number in this range under this name
abbrev pub number_under : Text → ℕ → ℕ → List Row → Option ℕ
number_under name low high rows = option_and_then (number_within low high) (first_of name rows)

-- how many connections each worker takes: 4,294,967,295 by default
abbrev pub connections_given : Option Text → Option ℕ
connections_given None = Some 4_294_967_295
connections_given (Some text) = number_within 1 4_294_967_295 text

-- a server by its numbers, or nothing if one of them can't be read
abbrev pub serve_by : Option ℕ → Option ℕ → Option ℕ → Option Text → Option Meant
serve_by (Some port) (Some workers) (Some connections) store = Some (record (only to_serve) {
  store = store;
  port = port;
  workers = workers;
  connections = connections;
})
serve_by (Some port) (Some workers) None store = None
serve_by (Some port) None connections store = None
serve_by None workers connections store = None

-- A server has a port from 0 to 65,535, and from 1 to 64 workers.
abbrev pub serve_meant : List Row → Option Meant
serve_meant rows = serve_by (number_under (codes "port") 0 65_535 rows) (number_under (codes "workers") 1 64 rows)
    (connections_given (first_of (codes "connections") rows)) (first_of (codes "store") rows)

-- a copy is patched by a sheet, a form and two files, or nothing if one of them can't be read
abbrev pub apply_by : Option Sheet → Option Form → Option Text → Option Text → Option Meant
apply_by (Some sheet) (Some form) (Some copy) (Some delta) =
    Some (record (only (to_patch sheet form)) { first = Some copy; second = Some delta })
apply_by (Some sheet) (Some form) (Some copy) None = None
apply_by (Some sheet) (Some form) None delta = None
apply_by (Some sheet) None copy delta = None
apply_by None form copy delta = None

-- The file of the copy is the first, and that of the delta the second. A path may be any text, including the empty one.
abbrev pub apply_meant : List Row → Option Meant
apply_meant rows = apply_by (option_and_then sheet_named (first_of (codes "TABLE") rows))
    (option_and_then form_named (first_of (codes "FORM") rows))
    (first_of (codes "COPY") rows) (first_of (codes "DELTA") rows)

-- names of a copy are searched by a form and a file, or nothing if one of them can't be read
abbrev pub search_by : Option Form → Option Text → Option Meant
search_by (Some form) (Some copy) = Some (record (only (to_search form)) { second = Some copy })
search_by (Some form) None = None
search_by None copy = None

-- The file of the copy is the second, since the first input has the queries.
abbrev pub search_meant : List Row → Option Meant
search_meant rows = search_by (option_and_then form_named (first_of (codes "FORM") rows)) (first_of (codes "COPY") rows)

-- A mirror is requested by its name alone.
abbrev pub mirror_meant : List Row → Option Meant
mirror_meant rows = Some (only to_mirror)

-- a report is made by a text that names its subject, a form and two files, or nothing if one of them can't be read
abbrev pub group_by : Option Text → Option Form → Option Text → Option Text → Option Meant
group_by (Some who) (Some form) (Some lei) (Some rr) =
    Some (record (only (to_report who form)) { first = Some lei; second = Some rr })
group_by (Some who) (Some form) (Some lei) None = None
group_by (Some who) (Some form) None rr = None
group_by (Some who) None lei rr = None
group_by None form lei rr = None

-- The file of the copy of `lei` is the first, and that of the copy of `rr` the second. The subject of a report may be
-- any text, including the empty one.
abbrev pub group_meant : List Row → Option Meant
group_meant rows = group_by (first_of (codes "WHO") rows)
    (option_and_then form_named (first_of (codes "FORM") rows))
    (first_of (codes "LEICOPY") rows) (first_of (codes "RRCOPY") rows)

-- Any text is checked, including the empty one.
abbrev pub check_meant : List Row → Option Meant
check_meant rows = option_map (λ text. only (to_check text)) (first_of (codes "CODE") rows)

-- Check digits are computed for any text, including the empty one.
abbrev pub digits_meant : List Row → Option Meant
digits_meant rows = option_map (λ text. only (to_make_digits text)) (first_of (codes "TEXT") rows)

-- A register has from 2 to 100,000 records.
abbrev pub demo_meant : List Row → Option Meant
demo_meant rows = option_map (λ records. only (to_make_up records)) (number_under (codes "N") 2 100_000 rows)

-- ---- what the words mean

-- The first word is the command's name, byte by byte, and that command reads the words after it.
abbrev pub meant_by : Text → List Text → Option Meant
meant_by name words =
    if bytes_eq name (codes "lines") then option_and_then lines_meant (read_by lines_app words)
    else (if bytes_eq name (codes "serve") then option_and_then serve_meant (read_by serve_app words)
    else (if bytes_eq name (codes "apply") then option_and_then apply_meant (read_by apply_app words)
    else (if bytes_eq name (codes "search") then option_and_then search_meant (read_by search_app words)
    else (if bytes_eq name (codes "mirror") then option_and_then mirror_meant (read_by mirror_app words)
    else (if bytes_eq name (codes "group") then option_and_then group_meant (read_by group_app words)
    else (if bytes_eq name (codes "check") then option_and_then check_meant (read_by check_app words)
    else (if bytes_eq name (codes "digits") then option_and_then digits_meant (read_by digits_app words)
    else (if bytes_eq name (codes "demo") then option_and_then demo_meant (read_by demo_app words)
    else None))))))))

-- What the words after the program's name ask for, or nothing if they aren't a command.
abbrev pub meant_run : List Text → Option Meant
meant_run [] = None
meant_run (name ∷ words) = meant_by name words

-- ---- what is read from them

-- the invocation that a command was read from
abbrev pub invocation_of : Command → Invocation
invocation_of commands.Lines = to_answer_lines
invocation_of commands.Serve = to_serve
invocation_of (commands.Apply sheet form) = to_patch sheet form
invocation_of (commands.Search form) = to_search form
invocation_of commands.Mirror = to_mirror
invocation_of (commands.Group who form) = to_report who.now form
invocation_of (commands.Check code) = to_check code.now
invocation_of (commands.Digits text) = to_make_digits text.now
invocation_of (commands.Demo records) = to_make_up records

-- the meaning that a run was read from
abbrev pub run_meaning : WantedRun → Meant
run_meaning run = record {
  invocation = invocation_of run.command;
  store = option_map (λ path. path.now) run.store;
  first = option_map (λ path. path.now) run.first;
  second = option_map (λ path. path.now) run.second;
  port = run.port;
  workers = run.workers;
  connections = run.connections;
}

-- The number of records that a command generates is in its range.
abbrev pub IsInRange : Command → Type 0
IsInRange commands.Lines = Unit {0}
IsInRange commands.Serve = Unit {0}
IsInRange (commands.Apply sheet form) = Unit {0}
IsInRange (commands.Search form) = Unit {0}
IsInRange commands.Mirror = Unit {0}
IsInRange (commands.Group who form) = Unit {0}
IsInRange (commands.Check code) = Unit {0}
IsInRange (commands.Digits text) = Unit {0}
IsInRange (commands.Demo records) = (2 ≤ records) × (records ≤ 100_000)

-- The numbers of a run are in their ranges: that of its command, and the workers of a server.
abbrev pub AreInRange : WantedRun → Type 0
AreInRange run = IsInRange run.command × (run.command ≡ commands.Serve → (1 ≤ run.workers) × (run.workers ≤ 64))
