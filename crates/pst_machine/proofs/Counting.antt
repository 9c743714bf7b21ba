-- What a run counted of its own, apart from what others counted.
use Rattle.std.proofs.Common.{◌≡◌, ◌+◌, Bool, true, false, nat_le, List, [], ◌∷◌, map, Option, Some, None, refl, ap, sym, ◌∙◌, subst, arith}
use Rattle.pst_base.specs.Counts.{counts_plus}
use Rattle.pst_base.specs.declared.names.Counts.{Counts}
use Rattle.pst_base.specs.declared.names.Trap.{Trap}
use Rattle.pst_program.specs.declared.meaning.Value.{Value}
use Rattle.pst_program.specs.declared.meaning.Value.TheVariants.{Number as ANumber}
use Rattle.pst_program.specs.Meaning.{World, Normal, Returned, Trapped, Spent}
use Rattle.pst_program.specs.Outcome.{TaskCall, first_world, no_counts}
use Rattle.pst_code.specs.declared.procedure.Parts.{Parts}
use Rattle.pst_code.specs.Machine.{Frame, Caller, Move, Goes, Waits, Over, Stuck, first_frame, steps}
use Rattle.pst_code.specs.Laws.{counted, counted_move}
use Rattle.pst_code.proofs.Counting.{counts_shift}
use Rattle.pst_versions.specs.State.{State}
use Rattle.pst_machine.specs.declared.stage.Stage.{Stage}
use Rattle.pst_machine_frames.specs.Ready.{world_of, current_of, waiting_of}
use Rattle.pst_machine.specs.Advance.{CallComes, CallsLead, ComesBetween, ComesIn, IsAt, TrapsBy, calls_of, trap_of}
use Rattle.pst_machine.specs.Stands.{Stands, StandsWhere, begins_with}
use Rattle.pst_machine.specs.Counting.{OwnCounts, SliceCounts, with_counts}
use Rattle.pst_machine.proofs.Leading.{between_counted, in_counted}
use Rattle.pst_machine.proofs.Stands.{next_stands}

-- ---- moves

returned_same : (x y : Option Value) (u v : World) → Over (Returned x u) ≡ Over (Returned y v) → (y ≡ x) × (u ≡ v)
returned_same x y u v e = let values : y ≡ x = cc in let worlds : u ≡ v = cc in (values, worlds)

goes_same : (f g : Frame) (c d : List Caller) (u v : World) → Goes f c u ≡ Goes g d v → (g ≡ f) × (d ≡ c) × (u ≡ v)
goes_same f g c d u v e = let frames : g ≡ f = cc in let callers : d ≡ c = cc in let worlds : u ≡ v = cc in (frames, callers, worlds)

-- a return where others counted is the same return without them
returned_uncounted : (others : Counts) (x : Option Value) (u : World) (n : Move) → Over (Returned x u) ≡ counted_move others n → (v : World) × (n ≡ Over (Returned x v)) × (u ≡ counted others v)
returned_uncounted others x u (Over (Returned y v)) e = let same = returned_same x y u (counted others v) e in (v, ap (λ (z : Option Value). Over (Returned z v)) same.0, same.1)
returned_uncounted others x u (Over (Normal registers v)) e = absurd (cc)
returned_uncounted others x u (Over (Trapped kind line v)) e = absurd (cc)
returned_uncounted others x u (Over (Spent line v)) e = absurd (cc)
returned_uncounted others x u (Goes f c v) e = absurd (cc)
returned_uncounted others x u (Waits line f c v) e = absurd (cc)
returned_uncounted others x u Stuck e = absurd (cc)

-- and so where it goes on
goes_uncounted : (others : Counts) (f : Frame) (c : List Caller) (u : World) (n : Move) → Goes f c u ≡ counted_move others n → (v : World) × (n ≡ Goes f c v) × (u ≡ counted others v)
goes_uncounted others f c u (Goes g d v) e = let same = goes_same f g c d u (counted others v) e in (v, (λ i. Goes (same.0 i) (same.1 i) v), same.2)
goes_uncounted others f c u (Waits line g d v) e = absurd (cc)
goes_uncounted others f c u (Over o) e = absurd (cc)
goes_uncounted others f c u Stuck e = absurd (cc)

-- and where it traps
traps_uncounted : (others : Counts) (whole : Bool) (trap : Trap) (u : World) (n : Move) → TrapsBy whole trap u (counted_move others n) → (v : World) × TrapsBy whole trap v n × (u ≡ counted others v)
traps_uncounted others whole trap u (Over (Trapped kind line v)) d = (v, (d.0, refl), sym d.1)
traps_uncounted others whole trap u (Waits line f c v) d = (v, (d.0, d.1, refl), sym d.2)
traps_uncounted others whole trap u (Over (Returned x v)) d = absurd d
traps_uncounted others whole trap u (Over (Normal registers v)) d = absurd d
traps_uncounted others whole trap u (Over (Spent line v)) d = absurd d
traps_uncounted others whole trap u (Goes f c v) d = absurd d
traps_uncounted others whole trap u Stuck d = absurd d

-- ---- calls in order

module _ (parts : Parts) (others : Counts) where
  call_uncounted : (c : TaskCall) (w : World) (m : Move) → CallComes parts c (counted others w) m → (n : Move) × CallComes parts c w n × (m ≡ counted_move others n)
  call_uncounted c w m d =
      let first = first_frame d.procedure (map ANumber c.arguments) in (
        steps parts d.reaches.within first [] w,
        record { procedure = d.procedure; found = d.found; fits = d.fits; reaches = record { within = d.reaches.within; comes = refl } },
        sym d.reaches.comes ∙ counts_shift parts others d.reaches.within first [] w,
      )

  leads_uncounted : (calls : List TaskCall) (w u : World) → CallsLead parts calls (counted others w) u → (v : World) × CallsLead parts calls w v × (u ≡ counted others v)
  leads_uncounted [] w u e = (w, refl, sym e)
  leads_uncounted (c ∷ calls) w u d =
      let one = call_uncounted c w (Over (Returned d.1.0 d.0)) d.1.1 in
      let back = returned_uncounted others d.1.0 d.0 one.0 one.2 in
      let rest = leads_uncounted calls back.0 u (subst (λ (x : World). CallsLead parts calls x u) back.2 d.2) in
      (rest.0, (back.0, (d.1.0, subst (CallComes parts c w) back.1 one.1), rest.1), rest.2)

  in_uncounted : (calls : List TaskCall) (first : World) (waiting : List TaskCall) (m : Move) → ComesIn parts calls (counted others first) waiting m
      → (n : Move) × ComesIn parts calls first waiting n × (m ≡ counted_move others n)
  in_uncounted calls first waiting m d =
      let led = leads_uncounted d.done first d.before d.leads in
      let come = call_uncounted d.call led.0 m (subst (λ (x : World). CallComes parts d.call x m) led.2 d.comes) in
      (come.0, record { done = d.done; call = d.call; split = d.split; before = led.0; leads = led.1; comes = come.1 }, come.2)

  between_uncounted : (calls : List TaskCall) (first : World) (waiting : List TaskCall) (u : World)
      → ComesBetween parts calls (counted others first) waiting u → (v : World) × ComesBetween parts calls first waiting v × (u ≡ counted others v)
  between_uncounted calls first waiting u d =
      let led = leads_uncounted d.done first u d.leads in
      (led.0, record { done = d.done; split = d.split; leads = led.1 }, led.2)

-- ---- where a run stands

module _ {P R : Type 0} (s : State P R) (parts : Parts) (others : Counts) (stage : Stage P R) where
  own_there : (v : World) → world_of s stage.standing ≡ counted others v → v ≡ world_of (with_counts s v.counts) stage.standing
  own_there v e = sym (ap (λ (w : World). record w { counts = v.counts }) e)

  own_at : (calls : List TaskCall) (first : World) (waiting : List TaskCall) (u : Bool)
      → IsAt u parts calls (counted others first) s stage.standing waiting → (c : Counts) × (s.counts ≡ counts_plus c others)
      × IsAt u parts calls first (with_counts s c) stage.standing waiting
  own_at calls first waiting true at =
      let less = in_uncounted parts others calls first waiting (Goes (current_of parts s stage.standing) (waiting_of parts s stage.standing) (world_of s stage.standing)) at in
      let back = goes_uncounted others (current_of parts s stage.standing) (waiting_of parts s stage.standing) (world_of s stage.standing) less.0 less.2 in (
        back.0.counts,
        ap (λ (w : World). w.counts) back.2,
        subst (λ (w : World). ComesIn parts calls first waiting (Goes (current_of parts s stage.standing) (waiting_of parts s stage.standing) w))
            (own_there back.0 back.2) (subst (ComesIn parts calls first waiting) back.1 less.1),
      )
  own_at calls first waiting false at =
      let less = between_uncounted parts others calls first waiting (world_of s stage.standing) at in
      (less.0.counts, ap (λ (w : World). w.counts) less.2, subst (ComesBetween parts calls first waiting) (own_there less.0 less.2) less.1)

  own_where : (calls : List TaskCall) (first : World) (o : Option Trap) → StandsWhere o parts calls (counted others first) s stage → (c : Counts)
      × (s.counts ≡ counts_plus c others) × StandsWhere o parts calls first (with_counts s c) stage
  own_where calls first None at = own_at calls first (calls_of stage.waiting) stage.under_way at
  own_where calls first (Some trap) d =
      let less = in_uncounted parts others calls first d.waiting d.move d.comes in
      let whole = nat_le stage.budget stage.granted in
      let back = traps_uncounted others whole trap (world_of s stage.standing) less.0 (subst (TrapsBy whole trap (world_of s stage.standing)) less.2 d.traps) in (
        back.0.counts,
        ap (λ (w : World). w.counts) back.2,
        record { waiting = d.waiting; move = less.0; comes = less.1; traps = subst (λ (w : World). TrapsBy whole trap w less.0) (own_there back.0 back.2) back.1 },
      )

  -- and back, with what others counted
  whole_there : (c : Counts) → s.counts ≡ counts_plus c others → counted others (world_of (with_counts s c) stage.standing) ≡ world_of s stage.standing
  whole_there c e = λ i. record (world_of s stage.standing) { counts = sym e i }

  whole_at : (calls : List TaskCall) (first : World) (waiting : List TaskCall) (c : Counts) (u : Bool) → s.counts ≡ counts_plus c others
      → IsAt u parts calls first (with_counts s c) stage.standing waiting → IsAt u parts calls (counted others first) s stage.standing waiting
  whole_at calls first waiting c true e at =
      subst (λ (w : World). ComesIn parts calls (counted others first) waiting (Goes (current_of parts s stage.standing) (waiting_of parts s stage.standing) w)) (whole_there c e)
      (in_counted parts others calls first waiting (Goes (current_of parts s stage.standing) (waiting_of parts s stage.standing) (world_of (with_counts s c) stage.standing)) at)
  whole_at calls first waiting c false e at =
      subst (ComesBetween parts calls (counted others first) waiting) (whole_there c e) (between_counted parts others calls first waiting (world_of (with_counts s c) stage.standing) at)

pub own_counts : {P R : Type 0} (s : State P R) → OwnCounts s
own_counts s parts calls heap others a stands =
    let own = own_where s parts others a calls (first_world a.standing.run a.granted heap) (trap_of a.ended) stands in
    (own.0, record { sum = own.1; stands = own.2 })

-- ---- a slice

-- two sums with one part in common
sums_differ_alike : (x y c d others : Counts) → x ≡ counts_plus c others → y ≡ counts_plus d others → counts_plus y c ≡ counts_plus x d
sums_differ_alike x y c d others before after =
    let r : (d.records + others.records) + c.records ≡ (c.records + others.records) + d.records = omega arith in
    let p : (d.pointer_writes + others.pointer_writes) + c.pointer_writes ≡ (c.pointer_writes + others.pointer_writes) + d.pointer_writes = omega arith in
    let v : (d.value_writes + others.value_writes) + c.value_writes ≡ (c.value_writes + others.value_writes) + d.value_writes = omega arith in
    let turned : counts_plus (counts_plus d others) c ≡ counts_plus (counts_plus c others) d = λ i. record { records = r i; pointer_writes = p i; value_writes = v i } in
    ap (λ (z : Counts). counts_plus z c) after ∙ turned ∙ ap (λ (z : Counts). counts_plus z d) (sym before)

pub slice_counts : {P R : Type 0} (s t : State P R) → SliceCounts s t
slice_counts s t parts calls heap others before charges a b p has ongoing small adv =
    let at = subst (λ (o : Option Trap). StandsWhere o parts calls (begins_with no_counts a.standing.run a.granted heap) (with_counts s before) a) ongoing has.stands in
    let whole = whole_at s parts others a calls (first_world a.standing.run a.granted heap) (calls_of a.waiting) before a.under_way has.sum at in
    let stands : Stands parts calls heap others s a = subst (λ (o : Option Trap). StandsWhere o parts calls (begins_with others a.standing.run a.granted heap) s a) (sym ongoing) whole in
    let next = next_stands s t parts calls heap others charges a b p stands ongoing small adv in
    let own = own_counts t parts calls heap others b next.0 in
    (own.0, own.1, sums_differ_alike s.counts t.counts before own.0 others has.sum own.1.sum)
