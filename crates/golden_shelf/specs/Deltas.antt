-- Deltas: what is joined from texts that are kept.
use Rattle.std.specs.Prelude.{List, map, flat_map, Option, Some, None}
use Rattle.std.specs.FinMap.Entries.{find}
use Rattle.std.specs.List.{filter}
use Rattle.lei_records.specs.Tables.{KeyTexts, key_cmp}
use Rattle.copy_csv.specs.Csv.{Rendered}
use Rattle.copy_csv.specs.declared.rows.RowTexts.{RowTexts}
use Rattle.register_words.specs.declared.sheets.Sheet.{Sheet}
use Rattle.copy_forms.specs.Trails.{dropped_row}
use Rattle.golden_shelf.specs.declared.issue.Issue.{Issue}
use Rattle.golden_shelf.specs.declared.order.TextKey.{TextKey}
use Rattle.golden_shelf.specs.Keys.{is_key_of, key_texts}
use Rattle.golden_shelf.specs.Lines.{KeyedLine}

-- The keys of a sheet that publications changed.
abbrev pub changed_in : Sheet → List Issue → List KeyTexts
changed_in sheet issues = flat_map (λ issue. map key_texts (filter (is_key_of sheet) issue.keys)) issues

-- The texts of a key.
abbrev pub texts_in : TextKey → KeyTexts
texts_in key = key_texts key.key

-- What a delta has for a key whose row has these texts, or that has no row.
abbrev pub change_texts : Sheet → KeyTexts → Option RowTexts → Rendered
change_texts sheet k (Some texts) = Rendered.put texts
change_texts sheet k None = Rendered.drop (dropped_row sheet k)

-- What a delta has for a key, according to the lines of its sheet.
abbrev pub shown_in : Sheet → List KeyedLine → KeyTexts → Rendered
shown_in sheet lines k = change_texts sheet k (find key_cmp k lines)
