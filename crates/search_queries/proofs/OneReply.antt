-- In a state a query has one reply.
use Rattle.std.proofs.Common.{◌≡◌, ◌⊎◌, ◌<◌, ◌^◌, ℕ, ℤ, List, length, Bool, true, false, Option, None, Some, inl, inr, refl, sym, ap, ◌∙◌, subst}
use Rattle.lei_code.specs.Texts.{Text}
use Rattle.register_words.specs.declared.sheets.Form.{Form}
use Rattle.register_words.specs.declared.sheets.Sheet.{Sheet}
use Rattle.copy_csv.proofs.FileLemmas.{one_delta}
use Rattle.copy_csv.specs.declared.heads.DeltaRead.{DeltaRead}
use Rattle.copy_csv.specs.declared.heads.Head.{Head}
use Rattle.copy_csv.specs.declared.rows.Change.{Change}
use Rattle.copy_forms.proofs.CopyLemmas.{csv-delta, delta-same}
use Rattle.copy_forms.specs.Files.{IsDeltaRead}
use Rattle.name_search.specs.NameTables.{IsTakeFault, MayTakeDelta, NameTable, delta_base}
use Rattle.name_search.specs.declared.faults.TakeFault.{TakeFault}
use Rattle.name_search.specs.declared.faults.TakeFault.TheVariants as faults
use Rattle.query_reading.specs.declared.asked.QueryAsked.{QueryAsked}
use Rattle.query_reading.specs.declared.reply.QueryReply.{QueryReply}
use Rattle.query_reading.specs.declared.reply.QueryReply.TheVariants as replies
use Rattle.search_queries.specs.Searches.{HasShortPacket, LacksMemory, RefusesDelta, SearchAsked, SearchState, SearchStep, TakesDelta, name_table, take_refusal}
use Rattle.search_queries.proofs.ReadFiles.{no_delta, some_delta}

-- the same, except that memory ran out for one or the other
abbrev pub OneOf : SearchState → QueryReply → SearchState → QueryReply → SearchState → Type 0
OneOf state reply new other next =
    LacksMemory state reply new ⊎ LacksMemory state other next ⊎ ((reply ≡ other) × (new ≡ next))

-- ---- a packet is read in one way

read_by : (a b : DeltaRead) → a.head ≡ b.head → a.wide ≡ b.wide → a.changes ≡ b.changes → a ≡ b
read_by a b heads wides changes =
    let H : Option Head → DeltaRead = λ h. record { head = h; wide = a.wide; changes = a.changes } in
    let W : Bool → DeltaRead = λ w. record { head = b.head; wide = w; changes = a.changes } in
    let C : List Change → DeltaRead = λ cs. record { head = b.head; wide = b.wide; changes = cs } in
    ap H heads ∙ (ap W wides ∙ ap C changes)

narrow : (wide : Bool) → (wide ≡ true → false ≡ true) → wide ≡ false
narrow true only = absurd (let no : false ≡ true = only refl in cc)
narrow false only = refl

one_read : (form : Form) (packet : Text) (a b : DeltaRead) → length packet < 2 ^ 64
    → IsDeltaRead packet Sheet.Lei form a
    → IsDeltaRead packet Sheet.Lei form b → a ≡ b
one_read Form.Csv packet a b short is also =
    let one = some_delta packet a is in
    let other = some_delta packet b also in
    let same = one_delta Sheet.Lei packet a.wide b.wide a.changes b.changes
    (csv-delta Sheet.Lei packet one.0 a.wide a.changes one.1)
    (csv-delta Sheet.Lei packet other.0 b.wide b.changes other.1) in
    read_by a b (is.0 ∙ sym also.0) same.0 same.1
one_read Form.Json packet a b short is also =
    let same = delta-same Sheet.Lei packet is.0 also.0 a.wide b.wide a.changes b.changes short is.2 also.2 in
    read_by a b (is.1 ∙ (ap (λ (head : Head). Some head) same.0 ∙ sym also.1))
    (narrow a.wide is.2.wide_is ∙ sym (narrow b.wide also.2.wide_is)) same.1

-- ---- a delta is refused in one way

same_some : (x y : ℕ) (o : Option ℕ) → o ≡ Some x → o ≡ Some y → x ≡ y
same_some x y None is also = cc
same_some x y (Some z) is also = cc

goes_wrong : (table : NameTable) (delta : DeltaRead) (p q : ℕ) → IsTakeFault table delta (faults.WrongBase p q)
    → table.publication ≡ delta_base delta → ⊥
goes_wrong table delta p q wrong from =
    wrong.2 (same_some p q table.publication wrong.0 (from ∙ wrong.1))

-- memory ran out for one or the other, or they are the same
abbrev SameFault : TakeFault → TakeFault → Type 0
SameFault fault other = (fault ≡ faults.NoMemory) ⊎ (other ≡ faults.NoMemory) ⊎ (fault ≡ other)

one_fault : (table : NameTable) (delta : DeltaRead) (fault other : TakeFault) → IsTakeFault table delta fault
    → IsTakeFault table delta other → SameFault fault other
one_fault table delta (faults.WrongBase p q) (faults.WrongBase r s) why also =
    inr (inr (ap (λ n. faults.WrongBase n q) (same_some p r table.publication why.0 also.0)
    ∙ ap (λ n. faults.WrongBase r n) (same_some q s (delta_base delta) why.1 also.1)))
one_fault table delta (faults.WrongBase p q) faults.OlderDelta why also =
    absurd (goes_wrong table delta p q why also.0)
one_fault table delta (faults.WrongBase p q) faults.NoMemory why also = inr (inl refl)
one_fault table delta faults.OlderDelta (faults.WrongBase p q) why also =
    absurd (goes_wrong table delta p q also why.0)
one_fault table delta faults.OlderDelta faults.OlderDelta why also = inr (inr refl)
one_fault table delta faults.OlderDelta faults.NoMemory why also = inr (inl refl)
one_fault table delta faults.NoMemory other why also = inl refl

lacks : (state : SearchState) (delta : DeltaRead) (reply : QueryReply) (new : SearchState)
    → (refused : RefusesDelta state delta reply new) → refused.fault ≡ faults.NoMemory → LacksMemory state reply new
lacks state delta reply new refused is = record {
  reply_is = refused.reply_is ∙ ap (λ fault. replies.Refused (take_refusal fault)) is;
  stays = refused.stays;
}

refused_once : (state new next : SearchState) (delta : DeltaRead) (reply other : QueryReply)
    → (one : RefusesDelta state delta reply new) → (also : RefusesDelta state delta other next)
    → SameFault one.fault also.fault → OneOf state reply new other next
refused_once state new next delta reply other one also (inl none) = inl (lacks state delta reply new one none)
refused_once state new next delta reply other one also (inr (inl none)) =
    inr (inl (lacks state delta other next also none))
refused_once state new next delta reply other one also (inr (inr same)) =
    inr (inr (
      one.reply_is ∙ (ap (λ fault. replies.Refused (take_refusal fault)) same ∙ sym also.reply_is),
      one.stays ∙ sym also.stays,
    ))

-- a delta that is taken is refused only for lack of memory
refused_taken : (state : SearchState) (delta : DeltaRead) (fault : TakeFault) → IsTakeFault (name_table state) delta fault
    → MayTakeDelta (name_table state) delta → fault ≡ faults.NoMemory
refused_taken state delta (faults.WrongBase p q) why takes =
    absurd (goes_wrong (name_table state) delta p q why takes.goes_from)
refused_taken state delta faults.OlderDelta why takes =
    absurd (let wide : true ≡ false = sym (takes.newer why.1) ∙ why.2 in cc)
refused_taken state delta faults.NoMemory why takes = refl

delta_once : (state new next : SearchState) (delta : DeltaRead) (reply other : QueryReply)
    → RefusesDelta state delta reply new ⊎ TakesDelta state delta reply new
    → RefusesDelta state delta other next ⊎ TakesDelta state delta other next → OneOf state reply new other next
delta_once state new next delta reply other (inl one) (inl also) =
    refused_once state new next delta reply other one also
    (one_fault (name_table state) delta one.fault also.fault one.why also.why)
delta_once state new next delta reply other (inl one) (inr also) =
    inl (lacks state delta reply new one (refused_taken state delta one.fault one.why also.takes))
delta_once state new next delta reply other (inr one) (inl also) =
    inr (inl (lacks state delta other next also (refused_taken state delta also.fault also.why one.takes)))
delta_once state new next delta reply other (inr one) (inr also) =
    inr (inr (one.reply_is ∙ sym also.reply_is, one.state_is ∙ sym also.state_is))

-- ---- queries

pub one_reply : (form : Form) (state new next : SearchState) (asked : SearchAsked) (moments later : List ℤ)
    (reply other : QueryReply) → HasShortPacket asked → SearchStep form state asked moments reply new
    → SearchStep form state asked later other next → OneOf state reply new other next
one_reply form state new next (QueryAsked.Refuse refusal) moments later reply other short one also =
    inr (inr (one.1 ∙ sym also.1, one.2 ∙ sym also.2))
one_reply form state new next (QueryAsked.Query query) moments later reply other short (none, inl is, stays)
    (nil, inl same, stay) =
    inr (inr (is ∙ sym same, stays ∙ sym stay))
one_reply form state new next (QueryAsked.Query query) moments later reply other short (none, inr is, stays) also =
    inl (record { reply_is = is; stays = stays })
one_reply form state new next (QueryAsked.Query query) moments later reply other short (none, inl is, stays)
    (nil, inr same, stay) =
    inr (inl (record { reply_is = same; stays = stay }))
one_reply form state new next (QueryAsked.Packet head packet) moments later reply other short
    (none, inl one) (nil, inl also) =
    inr (inr (one.reply_is ∙ sym also.reply_is, one.stays ∙ sym also.stays))
one_reply form state new next (QueryAsked.Packet head packet) moments later reply other short
    (none, inl one) (nil, inr (inl (delta, read, also))) = absurd (no_delta form packet delta one.none read)
one_reply form state new next (QueryAsked.Packet head packet) moments later reply other short
    (none, inl one) (nil, inr (inr also)) = inr (inl also)
one_reply form state new next (QueryAsked.Packet head packet) moments later reply other short
    (none, inr (inl (delta, read, one))) (nil, inl also) = absurd (no_delta form packet delta also.none read)
one_reply form state new next (QueryAsked.Packet head packet) moments later reply other short
    (none, inr (inl (delta, read, one))) (nil, inr (inl (second, again, also))) =
    let D : DeltaRead → Type 0 = λ d. RefusesDelta state d reply new ⊎ TakesDelta state d reply new in
    delta_once state new next second reply other (subst D (one_read form packet delta second short read again) one) also
one_reply form state new next (QueryAsked.Packet head packet) moments later reply other short
    (none, inr (inl (delta, read, one))) (nil, inr (inr also)) = inr (inl also)
one_reply form state new next (QueryAsked.Packet head packet) moments later reply other short
    (none, inr (inr one)) also = inl one
