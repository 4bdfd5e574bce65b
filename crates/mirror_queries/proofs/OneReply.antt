-- For a mirror and a query there is one reply.
use Rattle.std.proofs.Common.{◌≡◌, ◌⊎◌, ◌<◌, ◌^◌, ℤ, List, length, true, false, Some, inl, inr, sym, ap, ◌∙◌, subst, arith}
use Rattle.std.proofs.lemmas.Bool.{false≢true}
use Rattle.lei_code.specs.Texts.{Text}
use Rattle.register_words.specs.declared.sheets.Sheet.{Sheet}
use Rattle.copy_csv.specs.declared.heads.Head.{Head}
use Rattle.copy_forms.specs.Json.{json_copy}
use Rattle.lei_mirror.specs.Mirrors.{HasNoRoom, IsSheetShown, MirrorState, TakesBytes, TakesPacket, is_mirror_full, is_past, sheet_copy}
use Rattle.lei_mirror.proofs.PacketLemmas.{same_packet}
use Rattle.lei_mirror.proofs.TakingLemmas.{one_taken}
use Rattle.query_reading.specs.declared.asked.QueryAsked.{QueryAsked}
use Rattle.query_reading.specs.declared.reply.QueryReply.{QueryReply}
use Rattle.mirror_queries.specs.Answering.{LacksMemory, MirrorAsked, MirrorStep, PacketStep, ShowStep, progress_text}
use Rattle.mirror_queries.specs.Sizes.{HasShortPacket}
use Rattle.mirror_queries.specs.declared.grammar.PacketHead.{PacketHead}

-- the replies and the next mirrors are the same, unless memory ran out for one of them
abbrev OneOf : MirrorState → QueryReply → MirrorState → QueryReply → MirrorState → Type 0
OneOf state reply new other next =
    LacksMemory state reply new ⊎ LacksMemory state other next ⊎ ((reply ≡ other) × (new ≡ next))

-- ---- SHOW

some_head : (head other : Head) → Some head ≡ Some other → head ≡ other
some_head head other is = cc

one_shown : (state : MirrorState) (sheet : Sheet) (bytes others : Text) → IsSheetShown state sheet bytes
    → IsSheetShown state sheet others → bytes ≡ others
one_shown state sheet bytes others is are =
    let head : is.head ≡ are.head = some_head is.head are.head (sym is.head_is ∙ are.head_is) in
    is.copy.text ∙ ap (λ h. json_copy h (sheet_copy state.tables sheet).rows) head ∙ sym are.copy.text

one_show : (state new next : MirrorState) (sheet : Sheet) (reply other : QueryReply) → new ≡ state → next ≡ state
    → ShowStep state sheet reply → ShowStep state sheet other → OneOf state reply new other next
one_show state new next sheet reply other stays stay (inr (inr wants)) step =
    inl (record { reply_is = wants; stays = stays })
one_show state new next sheet reply other stays stay step (inr (inr wants)) =
    inr (inl (record { reply_is = wants; stays = stay }))
one_show state new next sheet reply other stays stay (inl nothing) (inl none) =
    inr (inr (nothing.reply_is ∙ sym none.reply_is, stays ∙ sym stay))
one_show state new next sheet reply other stays stay (inl nothing) (inr (inl shows)) =
    absurd (omega (arith, nothing.none, shows.some))
one_show state new next sheet reply other stays stay (inr (inl shows)) (inl nothing) =
    absurd (omega (arith, nothing.none, shows.some))
one_show state new next sheet reply other stays stay (inr (inl shows)) (inr (inl show)) =
    let same = one_shown state sheet shows.bytes show.bytes shows.is show.is in
    inr (inr (shows.reply_is ∙ ap (λ bytes. QueryReply.File bytes) same ∙ sym show.reply_is, stays ∙ sym stay))

-- ---- COPY and DELTA

module _ (state : MirrorState) (head : PacketHead) (packet : Text) (short : length packet < 2 ^ 64) where
  one_new : (new next : MirrorState) → TakesBytes state head.kind head.sheet packet new
      → TakesBytes state head.kind head.sheet packet next → new ≡ next
  one_new new next takes take =
      let same : take.packet ≡ takes.packet =
      same_packet head.sheet packet short head.kind take.packet takes.packet take.is takes.is in
      one_taken state takes.packet new next takes.takes (subst (λ p. TakesPacket state p next) same take.takes)

  not_both : (new : MirrorState) → TakesBytes state head.kind head.sheet packet new
      → HasNoRoom state head.kind head.sheet packet → ⊥
  not_both new takes lacks =
      let same : lacks.packet ≡ takes.packet =
      same_packet head.sheet packet short head.kind lacks.packet takes.packet lacks.is takes.is in
      let late : is_past state takes.packet ≡ false = subst (λ p. is_past state p ≡ false) same lacks.new in
      let full : is_mirror_full state takes.packet ≡ true = subst (λ p. is_mirror_full state p ≡ true) same lacks.full in
      false≢true (sym (takes.takes.room late) ∙ full)

  one_take : (new next : MirrorState) (reply other : QueryReply) → PacketStep state head packet reply new
      → PacketStep state head packet other next → OneOf state reply new other next
  one_take new next reply other (inr (inr (inr wants))) step = inl wants
  one_take new next reply other step (inr (inr (inr wants))) = inr (inl wants)
  one_take new next reply other (inl takes) (inl take) =
      let same : new ≡ next = one_new new next takes.takes take.takes in
      let text : QueryReply.Text (progress_text new.tables.publication (length new.kept))
      ≡ QueryReply.Text (progress_text next.tables.publication (length next.kept)) =
      ap (λ (s : MirrorState). QueryReply.Text (progress_text s.tables.publication (length s.kept))) same in
      inr (inr (takes.reply_is ∙ text ∙ sym take.reply_is, same))
  one_take new next reply other (inl takes) (inr (inl refuses)) =
      absurd (refuses.none takes.takes.packet takes.takes.is)
  one_take new next reply other (inl takes) (inr (inr (inl lacks))) =
      absurd (not_both new takes.takes lacks.full)
  one_take new next reply other (inr (inl refuses)) (inl takes) =
      absurd (refuses.none takes.takes.packet takes.takes.is)
  one_take new next reply other (inr (inl refuses)) (inr (inl refuse)) =
      inr (inr (refuses.reply_is ∙ sym refuse.reply_is, refuses.stays ∙ sym refuse.stays))
  one_take new next reply other (inr (inl refuses)) (inr (inr (inl lacks))) =
      absurd (refuses.none lacks.full.packet lacks.full.is)
  one_take new next reply other (inr (inr (inl lacks))) (inl takes) = absurd (not_both next takes.takes lacks.full)
  one_take new next reply other (inr (inr (inl lacks))) (inr (inl refuses)) =
      absurd (refuses.none lacks.full.packet lacks.full.is)
  one_take new next reply other (inr (inr (inl lacks))) (inr (inr (inl lack))) =
      inr (inr (lacks.reply_is ∙ sym lack.reply_is, lacks.stays ∙ sym lack.stays))

-- ---- queries

pub one_reply : (state new next : MirrorState) (asked : MirrorAsked) (moments later : List ℤ) (reply other : QueryReply)
    → HasShortPacket asked → MirrorStep state asked moments reply new → MirrorStep state asked later other next
    → LacksMemory state reply new ⊎ LacksMemory state other next ⊎ ((reply ≡ other) × (new ≡ next))
one_reply state new next (QueryAsked.Refuse refusal) moments later reply other short step again =
    inr (inr (step.1 ∙ sym again.1, step.2 ∙ sym again.2))
one_reply state new next (QueryAsked.Query query) moments later reply other short step again =
    one_show state new next query.sheet reply other step.2 again.2 step.1 again.1
one_reply state new next (QueryAsked.Packet head packet) moments later reply other short step again =
    one_take state head packet short new next reply other step.1 again.1
