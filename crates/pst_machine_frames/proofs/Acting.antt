-- What each instruction does, in the machine's definition.
use Rattle.std.proofs.Common.{◌≡◌, ℕ, suc, ◌+◌, ◌<◌, ◌≤◌, ◌^◌, ℤ, Bool, true, List, [], ◌∷◌, ◌++◌, length, map, drop, reverse, All, Option, Some, None, refl}
use Rattle.std.proofs.Common.{ap, sym, ◌∙◌, subst, arith, slice_set, slice_index_or}
use Rattle.std.specs.Prelude.{slice_get, unwrap_or}
use Rattle.std.specs.Option.{option_map}
use Rattle.std.specs.declared.vec.Vec.{Vec}
use Rattle.std.specs.declared.alloc.Global.{Global}
use Rattle.std.proofs.lemmas.List.{map-append, reverse-append, length-map, length-reverse, length_push}
use Rattle.std.proofs.lemmas.Bool.{lt-ltb, le-ltb}
use Rattle.std.proofs.lemmas.List.Elements.{All-head, All-tail, All-weaker, All-append, All-map, All-push, All-pop}
use Rattle.pst_base.specs.declared.names.Kind.{Kind}
use Rattle.pst_base.specs.declared.names.Kind.TheVariants.{Int, Pointer}
use Rattle.pst_base.specs.declared.names.Name.{Name}
use Rattle.pst_base.specs.declared.names.ProcNo.{ProcNo}
use Rattle.pst_base.specs.declared.names.SlotNo.{SlotNo}
use Rattle.pst_base.specs.declared.names.TypeNo.{TypeNo}
use Rattle.pst_base.specs.declared.names.TrapKind.{TrapKind}
use Rattle.pst_base.specs.declared.names.TrapKind.TheVariants.{Null as NullTrap, Index as IndexTrap, Output}
use Rattle.pst_base.specs.declared.shape.TypeShape.{TypeShape}
use Rattle.pst_base.specs.Shape.{IsTarget}
use Rattle.pst_base.specs.Heap.{with_record, new_record}
use Rattle.pst_program.specs.declared.meaning.Value.{Value}
use Rattle.pst_program.specs.declared.meaning.Value.TheVariants.{Record as ARecord}
use Rattle.pst_program.specs.Value.{number_of, index_of}
use Rattle.pst_program.specs.Meaning.{World, Ending, Normal, Returned, Trapped, choose, write, with_object, with_index, default_of, next_name, record_made}
use Rattle.pst_program.proofs.Guards.{makes}
use Rattle.pst_code.specs.declared.instr.Reg.{Reg}
use Rattle.pst_code.specs.declared.instr.Instr.{Instr}
use Rattle.pst_code.specs.declared.instr.Instr.TheVariants.{Charge, Store, Storex, New, Print, Call, Return}
use Rattle.pst_code.specs.declared.procedure.Procedure.{Procedure}
use Rattle.pst_code.specs.declared.procedure.Parts.{Parts}
use Rattle.pst_code.specs.Machine.{Frame, Caller, Goes, Waits as WaitsFor, Over, held, put, behind, act, after_effect, take_charge, first_frame, enter_where, next_instr, with_result, leave_to}
use Rattle.pst_versions.specs.State.{State, Grows}
use Rattle.pst_versions.proofs.StateLemmas.{WritesStay_refl}
use Rattle.pst_machine_steps.specs.declared.register.Register.{Register}
use Rattle.pst_machine_steps.specs.declared.register.Register.TheVariants.{Number, Null, Reference}
use Rattle.pst_machine_steps.specs.declared.standing.CallFrame.{CallFrame}
use Rattle.pst_machine_steps.specs.declared.standing.Waiting.{Waiting}
use Rattle.pst_machine_steps.specs.declared.standing.Standing.{Standing}
use Rattle.pst_machine_steps.specs.declared.standing.Step.{Step}
use Rattle.pst_machine_steps.specs.declared.standing.Step.TheVariants.{Next, Here, Switched, Waits, Ends, Trap}
use Rattle.pst_machine_steps.specs.View.{value_of, no_procedure, procedure_of, frame_of, caller_of, callers_of, move_of}
use Rattle.pst_machine_steps.specs.Live.{IsLive, IsPlainRegister, KeptFrom}
use Rattle.pst_machine_steps.specs.Calls.{held_in, register_default, SameTally, IsEntered, Called, with_register, given_back, Left}
use Rattle.pst_machine_frames.specs.Ready.{AreLive, IsLiveWaiting, world_of, current_of, waiting_of, IsRunning, IsFunded, Acted, CameTo, IsOut, IsSwitch, Printed, step_of}
use Rattle.pst_machine_steps.specs.Fields.{world_in, KeepsOthers, FieldWritten, Made, write_end}
use Rattle.pst_machine_steps.specs.Steps.{Charged, Stored, StoredAt, RefusesElement, slot_at}
use Rattle.pst_machine_steps.proofs.Kept.{value_held, values_set, live_held, live_set, live_kept, object_null}
use Rattle.pst_machine_frames.proofs.Moving.{kept_refl, ran_none}

-- ---- lists

map_reverse : {A B : Type 0} (f : A → B) (xs : List A) → map f (reverse xs) ≡ reverse (map f xs)
map_reverse f [] = refl
map_reverse f (x ∷ xs) = ap (map f) (reverse-append (x ∷ []) xs) ∙ map-append f (reverse xs) (x ∷ []) ∙ ap (λ ys. ys ++ f x ∷ []) (map_reverse f xs) ∙ sym (reverse-append (f x ∷ []) (map f xs))

-- ---- references keep their names

module _ {P R : Type 0} (s t : State P R) (at : P) (grows : Grows s t) where
  value_kept : (v : Register R) → IsLive s at v → value_of t.name v ≡ value_of s.name v
  value_kept (Number n) live = refl
  value_kept Null live = refl
  value_kept (Reference r) live = ap (λ (n : Name). ARecord n) (grows.name at r live)

  live_one : (v : Register R) → IsLive s at v → IsLive t at v
  live_one (Number n) live = tt
  live_one Null live = tt
  live_one (Reference r) live = grows.live at r live

  pub live_grows : (xs : List (Register R)) → All (IsLive s at) xs → All (IsLive t at) xs
  live_grows xs live = All-weaker (IsLive s at) (IsLive t at) live_one xs live

  pub waiting_grows : (ws : List (Waiting R)) → All (IsLiveWaiting s at) ws → All (IsLiveWaiting t at) ws
  waiting_grows ws live = All-weaker (IsLiveWaiting s at) (IsLiveWaiting t at) (λ w h. live_grows w.frame.registers.items h) ws live

  pub registers_kept : (xs : List (Register R)) → All (IsLive s at) xs → map (value_of t.name) xs ≡ map (value_of s.name) xs
  registers_kept [] live = refl
  registers_kept (x ∷ xs) live = λ i. value_kept x (All-head (IsLive s at) x xs live) i ∷ registers_kept xs (All-tail (IsLive s at) x xs live) i

  pub frame_kept : (parts : Parts) (f : CallFrame R) → All (IsLive s at) f.registers.items → frame_of parts t.name f ≡ frame_of parts s.name f
  frame_kept parts f live = ap (λ (vs : List Value). let g : Frame =
      record { procedure = procedure_of parts f.procedure; at = f.at; registers = vs; line = f.line } in g) (registers_kept f.registers.items live)

  waiting_kept : (parts : Parts) (ws : List (Waiting R)) → All (IsLiveWaiting s at) ws → map (caller_of parts t.name) ws ≡ map (caller_of parts s.name) ws
  waiting_kept parts [] live = refl
  waiting_kept parts (w ∷ ws) live = λ i. record { frame = frame_kept parts w.frame (All-head (IsLiveWaiting s at) w ws live) i; into = w.into } ∷
      waiting_kept parts ws (All-tail (IsLiveWaiting s at) w ws live) i

  pub callers_kept : (parts : Parts) (ws : List (Waiting R)) → All (IsLiveWaiting s at) ws → callers_of parts t.name ws ≡ callers_of parts s.name ws
  callers_kept parts ws live = map_reverse (caller_of parts t.name) ws ∙ ap reverse (waiting_kept parts ws live) ∙ sym (map_reverse (caller_of parts s.name) ws)

-- what an instruction does, under another name of what it came to
pub came_acted : {P R : Type 0} {parts : Parts} {s t : State P R} {a b : Standing P R} {instr : Instr} {x : Option Step} {step : Step} → x ≡ Some step
    → Acted parts s a instr step t b → CameTo parts s a instr x t b
came_acted {P} {R} {parts} {s} {t} {a} {b} {instr} e acted = subst (λ (x : Option Step). CameTo parts s a instr x t b) (sym e) acted

-- a call or a return is left to be carried out
pub came_due : {P R : Type 0} {x : Option Step} (parts : Parts) (s : State P R) (a : Standing P R) (instr : Instr) → x ≡ None → IsRunning parts s a
    → IsFunded parts s a → next_instr (current_of parts s a) ≡ Some instr → IsSwitch instr → CameTo parts s a instr x s a
came_due {P} {R} {x} parts s a instr e running funded next switches =
    subst (λ (x : Option Step). CameTo parts s a instr x s a) (sym e) ((ran_none parts s a running funded, record { instr = instr; is = next; switches = switches }, refl), refl)

-- ---- instructions that leave the heap alone

module _ {P R : Type 0} (parts : Parts) (s : State P R) (a : Standing P R) (live : AreLive s a) where
  -- only the frame changes
  pub frame_acted : (f : CallFrame R) (instr : Instr) (step : Step)
      → act parts (Some instr) (current_of parts s a) (waiting_of parts s a) (world_of s a) ≡ move_of step (frame_of parts s.name f) (waiting_of parts s a) (world_of s a)
      → All (IsLive s a.place) f.registers.items → f.procedure ≡ a.current.procedure → Acted parts s a instr step s (record a { current = f })
  frame_acted f instr step e current same = record {
    acts = e;
    live = record { current = current; waiting = live.waiting; few = live.few };
    place = refl;
    run = refl;
    stays = λ stays. same;
    kept = kept_refl parts a.place s;
    writes = WritesStay_refl s;
  }

  -- and no reference comes into it anew
  pub plain_acted : (f : CallFrame R) (instr : Instr) (step : Step)
      → act parts (Some instr) (current_of parts s a) (waiting_of parts s a) (world_of s a) ≡ move_of step (frame_of parts s.name f) (waiting_of parts s a) (world_of s a)
      → KeptFrom a.current.registers.items f.registers.items → f.procedure ≡ a.current.procedure → Acted parts s a instr step s (record a { current = f })
  plain_acted f instr step e kept same = frame_acted f instr step e (live_kept s a.place a.current.registers.items f.registers.items kept live.current) same

  -- and the registers stay
  pub jump_acted : (f : CallFrame R) (instr : Instr) (step : Step)
      → act parts (Some instr) (current_of parts s a) (waiting_of parts s a) (world_of s a) ≡ move_of step (frame_of parts s.name f) (waiting_of parts s a) (world_of s a)
      → f.registers ≡ a.current.registers → f.procedure ≡ a.current.procedure → Acted parts s a instr step s (record a { current = f })
  jump_acted f instr step e registers same = frame_acted f instr step e (subst (λ (xs : Vec (Register R) Global). All (IsLive s a.place) xs.items) (sym registers) live.current) same

  pub charged_acted : (line : ℕ) (step : Step) (left : ℕ) (f : CallFrame R) → Charged a.left a.current line step left f → Acted parts s a (Charge line) step s (record a { left = left; current = f })
  charged_acted line Next left f d =
      let c = waiting_of parts s a in
      let w = world_of s a in
      let one : a.left ≡ suc left = d.0 ∙ omega arith in
      record {
        acts = ap (λ (n : ℕ). take_charge n line (current_of parts s a) c w) one
            ∙ ap (λ (f : CallFrame R). let g : Frame = frame_of parts s.name f in Goes (behind g g.registers) c (record w { charges = left })) (sym d.1);
        live = record { current = subst (λ (f : CallFrame R). All (IsLive s a.place) f.registers.items) (sym d.1) live.current; waiting = live.waiting; few = live.few };
        place = refl;
        run = refl;
        stays = λ stays. ap (λ (f : CallFrame R). f.procedure) d.1;
        kept = kept_refl parts a.place s;
        writes = WritesStay_refl s;
      }
  charged_acted line (Waits due) left f d =
      let c = waiting_of parts s a in
      let w = world_of s a in
      record {
        acts = ap (λ (n : ℕ). take_charge n line (current_of parts s a) c w) d.1
            ∙ (λ i. WaitsFor (sym d.0 i) (frame_of parts s.name (sym d.3 i)) c (record w { charges = (d.1 ∙ sym d.2) i }));
        live = record { current = subst (λ (f : CallFrame R). All (IsLive s a.place) f.registers.items) (sym d.3) live.current; waiting = live.waiting; few = live.few };
        place = refl;
        run = refl;
        stays = λ stays. absurd stays;
        kept = kept_refl parts a.place s;
        writes = WritesStay_refl s;
      }
  charged_acted line Here left f d = absurd d
  charged_acted line Switched left f d = absurd d
  charged_acted line (Ends v) left f d = absurd d
  charged_acted line (Trap kind) left f d = absurd d

  pub printed_acted : (r : Reg) (step : Step) (printed : Vec ℤ Global)
      → Printed a.printed.items (number_of (held (current_of parts s a).registers r)) step printed.items
      → Acted parts s a (Print r) step s (record a { printed = printed })
  printed_acted r Next printed d =
      let f = current_of parts s a in
      let c = waiting_of parts s a in
      let w = world_of s a in
      let n = number_of (held f.registers r) in
      record {
        acts = ap (λ (b : Bool). after_effect (choose b (Normal f.registers (record w { printed = a.printed.items ++ n ∷ [] }))
            (Trapped Output f.line w)) f c) (lt-ltb (length a.printed.items) (2 ^ 16) d.0)
            ∙ ap (λ (ps : List ℤ). Goes (behind f f.registers) c (record w { printed = ps })) (sym d.1);
        live = record { current = live.current; waiting = live.waiting; few = live.few };
        place = refl;
        run = refl;
        stays = λ stays. refl;
        kept = kept_refl parts a.place s;
        writes = WritesStay_refl s;
      }
  printed_acted r (Trap kind) printed d =
      let f = current_of parts s a in
      let c = waiting_of parts s a in
      let w = world_of s a in
      let n = number_of (held f.registers r) in
      record {
        acts = ap (λ (b : Bool). after_effect (choose b (Normal f.registers (record w { printed = a.printed.items ++ n ∷ [] }))
            (Trapped Output f.line w)) f c) (le-ltb (length a.printed.items) (2 ^ 16) d.1)
            ∙ (λ i. Over (Trapped (sym d.0 i) f.line (record w { printed = sym d.2 i })));
        live = record { current = live.current; waiting = live.waiting; few = live.few };
        place = refl;
        run = refl;
        stays = λ stays. absurd stays;
        kept = kept_refl parts a.place s;
        writes = WritesStay_refl s;
      }
  printed_acted r Here printed d = absurd d
  printed_acted r Switched printed d = absurd d
  printed_acted r (Waits line) printed d = absurd d
  printed_acted r (Ends v) printed d = absurd d

-- ---- calls and returns

module _ {P R : Type 0} (parts : Parts) (s : State P R) where
  pub gathered : (f : CallFrame R) (arguments : List Reg) → map (value_of s.name) (map (held_in f) arguments) ≡ map (held (map (value_of s.name) f.registers.items)) arguments
  gathered f [] = refl
  gathered f (r ∷ rs) = λ i. value_held s.name f.registers.items r.0 i ∷ gathered f rs i

  default_value : (kind : Kind) → value_of s.name (register_default kind) ≡ default_of kind
  default_value Int = refl
  default_value (Pointer ty) = refl

  pub defaults : (kinds : List Kind) → map (value_of s.name) (map register_default kinds) ≡ map default_of kinds
  defaults [] = refl
  defaults (kind ∷ kinds) = λ i. default_value kind i ∷ defaults kinds i

  pub default_live : (at : P) (kind : Kind) → IsLive s at (register_default kind)
  default_live at Int = tt
  default_live at (Pointer ty) = tt

  one_waits : (ws : List (Waiting R)) (x : Waiting R) → callers_of parts s.name (ws ++ x ∷ []) ≡ caller_of parts s.name x ∷ callers_of parts s.name ws
  one_waits ws x = ap (map (caller_of parts s.name)) (reverse-append ws (x ∷ []))

  callers_length : (ws : List (Waiting R)) → length (callers_of parts s.name ws) ≡ length ws
  callers_length ws = length-map (reverse ws) (caller_of parts s.name) ∙ length-reverse ws

  pub same_tally : (a b : Standing P R) → SameTally a b → world_of s b ≡ world_of s a
  same_tally a b d = λ i. world_in s (d.place i) (d.left i) (d.printed i).items (d.run i) (d.made i)

  entered_frame : (a b : Standing P R) (p : ProcNo) (into : Option Reg) (arguments : List Reg) (q : Procedure)
      → slice_get parts.procedures p.0 ≡ Some q → IsEntered a.current a.callers.items p into arguments q.kinds b.current b.callers.items
      → frame_of parts s.name b.current ≡ first_frame q (map (held (current_of parts s a).registers) arguments)
  entered_frame a b p into arguments q there d =
      let vs = map (held (current_of parts s a).registers) arguments in
      let count : length arguments ≡ length vs = sym (length-map arguments (held (current_of parts s a).registers)) in
      let values : map (value_of s.name) b.current.registers.items ≡ vs ++ map default_of (drop (length vs) q.kinds) =
      ap (map (value_of s.name)) d.registers
      ∙ map-append (value_of s.name) (map (held_in a.current) arguments) (map register_default (drop (length arguments) q.kinds))
      ∙ (λ i. gathered a.current arguments i ++ defaults (drop (length arguments) q.kinds) i)
      ∙ ap (λ (n : ℕ). vs ++ map default_of (drop n q.kinds)) count in
      let procedure : procedure_of parts b.current.procedure ≡ q = ap (procedure_of parts) d.procedure_is ∙ ap (λ (o : Option Procedure). unwrap_or o no_procedure) there in
      λ i. record { procedure = procedure i; at = d.at i; registers = values i; line = d.line i }

  pub called_acted : (a b : Standing P R) (p : ProcNo) (into : Option Reg) (arguments : List Reg) (step : Step) (q : Procedure) → AreLive s a
      → slice_get parts.procedures p.0 ≡ Some q → Called a.current a.callers.items p into arguments q.kinds step b.current b.callers.items
      → SameTally a b → Acted parts s a (Call p into arguments) step s b
  called_acted a b p into arguments Switched q live there d same =
      let f = current_of parts s a in
      let c = waiting_of parts s a in
      let w = world_of s a in
      let vs = map (held f.registers) arguments in
      let room : length c + 1 < 256 = omega (arith, callers_length a.callers.items, d.few) in
      let waits : waiting_of parts s b ≡ record { frame = behind f f.registers; into = into } ∷ c = ap (callers_of parts s.name) d.callers_are
      ∙ one_waits a.callers.items (record { frame = record a.current { at = a.current.at + 1 }; into = into }) in
      record {
        acts = ap (λ (x : Bool). enter_where x (slice_get parts.procedures p.0) vs into f c w) (lt-ltb (length c + 1) 256 room)
            ∙ ap (λ (o : Option Procedure). enter_where true o vs into f c w) there
            ∙ (λ i. Goes (sym (entered_frame a b p into arguments q there d) i) (sym waits i) (sym (same_tally a b same) i));
        live = record {
          current = subst (λ (at : P). All (IsLive s at) b.current.registers.items) (sym same.place) (subst (All (IsLive s a.place)) (sym d.registers)
              (All-append (IsLive s a.place) (map (held_in a.current) arguments) (map register_default (drop (length arguments) q.kinds))
              (All-map (IsLive s a.place) (held_in a.current) arguments (λ k e lt. live_held s a.place a.current.registers.items (slice_index_or arguments k e).0 live.current))
              (All-map (IsLive s a.place) register_default (drop (length arguments) q.kinds) (λ k e lt. default_live a.place (slice_index_or (drop (length arguments) q.kinds) k e)))));
          waiting = subst (λ (at : P). All (IsLiveWaiting s at) b.callers.items) (sym same.place) (subst (All (IsLiveWaiting s a.place)) (sym d.callers_are)
              (All-push (IsLiveWaiting s a.place) a.callers.items (record { frame = record a.current { at = a.current.at + 1 }; into = into }) live.waiting live.current));
          few = (let more : length b.callers.items ≡ length a.callers.items + 1 = ap length d.callers_are
              ∙ length_push a.callers.items (record { frame = record a.current { at = a.current.at + 1 }; into = into }) in omega (arith, d.few));
        };
        place = same.place;
        run = same.run;
        stays = λ stays. absurd stays;
        kept = kept_refl parts a.place s;
        writes = WritesStay_refl s;
      }
  called_acted a b p into arguments (Trap kind) q live there d same =
      let f = current_of parts s a in
      let c = waiting_of parts s a in
      let w = world_of s a in
      let vs = map (held f.registers) arguments in
      let many : 256 ≤ length c + 1 = omega (arith, callers_length a.callers.items, d.1) in
      record {
        acts = ap (λ (x : Bool). enter_where x (slice_get parts.procedures p.0) vs into f c w) (le-ltb (length c + 1) 256 many)
            ∙ (λ i. Over (Trapped (sym d.0 i) (sym d.2 i).line (sym (same_tally a b same) i)));
        live = record {
          current = subst (λ (at : P). All (IsLive s at) b.current.registers.items) (sym same.place) (subst (λ (f : CallFrame R). All (IsLive s a.place) f.registers.items) (sym d.2) live.current);
          waiting = subst (λ (at : P). All (IsLiveWaiting s at) b.callers.items) (sym same.place) (subst (All (IsLiveWaiting s a.place)) (sym d.3) live.waiting);
          few = subst (λ (ws : List (Waiting R)). length ws ≤ 255) (sym d.3) live.few;
        };
        place = same.place;
        run = same.run;
        stays = λ stays. absurd stays;
        kept = kept_refl parts a.place s;
        writes = WritesStay_refl s;
      }
  called_acted a b p into arguments Next q live there d same = absurd d
  called_acted a b p into arguments Here q live there d same = absurd d
  called_acted a b p into arguments (Waits line) q live there d same = absurd d
  called_acted a b p into arguments (Ends v) q live there d same = absurd d

  -- a call leaves the frame, or the run is over
  pub called_out : (f f' : CallFrame R) (callers callers' : List (Waiting R)) (p : ProcNo) (into : Option Reg) (arguments : List Reg)
      (kinds : List Kind) (step : Step) → Called f callers p into arguments kinds step f' callers' → IsOut step
  called_out f f' callers callers' p into arguments kinds Switched d = tt
  called_out f f' callers callers' p into arguments kinds (Trap kind) d = tt
  called_out f f' callers callers' p into arguments kinds Next d = absurd d
  called_out f f' callers callers' p into arguments kinds Here d = absurd d
  called_out f f' callers callers' p into arguments kinds (Waits line) d = tt
  called_out f f' callers callers' p into arguments kinds (Ends v) d = tt

  returned : (f : Frame) (c : List Caller) (w : World) (r : Option Reg) → act parts (Some (Return r)) f c w ≡ leave_to (option_map (held f.registers) r) c w
  returned f c w None = refl
  returned f c w (Some r) = refl

  given_value : (f : CallFrame R) (r : Option Reg) → option_map (value_of s.name) (given_back f r) ≡ option_map (held (map (value_of s.name) f.registers.items)) r
  given_value f None = refl
  given_value f (Some r) = ap (λ (v : Value). Some v) (value_held s.name f.registers.items r.0)

  result_registers : (into : Option Reg) (v : Option (Register R)) (f : CallFrame R)
      → map (value_of s.name) (with_register into v f.registers.items) ≡ (with_result into (option_map (value_of s.name) v) (frame_of parts s.name f)).registers
  result_registers None v f = refl
  result_registers (Some d) None f = refl
  result_registers (Some d) (Some v) f = values_set s.name f.registers.items d.0 v

  result_frame : (into : Option Reg) (v : Option Value) (f : Frame) → with_result into v f ≡ record f { registers = (with_result into v f).registers }
  result_frame None v f = refl
  result_frame (Some d) None f = refl
  result_frame (Some d) (Some v) f = refl

  result_live : (at : P) (into : Option Reg) (v : Option (Register R)) (xs : List (Register R)) → ((r : Register R) → v ≡ Some r → IsLive s at r)
      → All (IsLive s at) xs → All (IsLive s at) (with_register into v xs)
  result_live at None v xs here live = live
  result_live at (Some d) None xs here live = live
  result_live at (Some d) (Some v) xs here live = live_set s at xs d.0 v (here v refl) live

  given_live : (at : P) (f : CallFrame R) (r : Option Reg) → All (IsLive s at) f.registers.items → (v : Register R) → given_back f r ≡ Some v → IsLive s at v
  given_live at f None live v e = absurd (cc)
  given_live at f (Some r) live v e = let same : held_in f r ≡ v = cc in subst (IsLive s at) same (live_held s at f.registers.items r.0 live)

  pub left_acted : (a b : Standing P R) (r : Option Reg) (step : Step) → AreLive s a → Left a.current a.callers.items r step b.current b.callers.items
      → SameTally a b → Acted parts s a (Return r) step s b
  left_acted a b r Switched live d same =
      let f = current_of parts s a in
      let c = waiting_of parts s a in
      let w = world_of s a in
      let v = option_map (held f.registers) r in
      let x = d.waiting in
      let waits : c ≡ caller_of parts s.name x ∷ waiting_of parts s b = ap (callers_of parts s.name) d.callers_are ∙ one_waits b.callers.items x in
      let values : map (value_of s.name) b.current.registers.items ≡ (with_result x.into v (frame_of parts s.name x.frame)).registers =
      ap (map (value_of s.name)) d.registers ∙ result_registers x.into (given_back a.current r) x.frame
      ∙ ap (λ (v : Option Value). (with_result x.into v (frame_of parts s.name x.frame)).registers) (given_value a.current r) in
      let frame : current_of parts s b ≡ with_result x.into v (frame_of parts s.name x.frame) =
      (λ i. record { procedure = procedure_of parts (d.procedure i); at = d.at i; registers = values i; line = d.line i }) ∙ sym (result_frame x.into v (frame_of parts s.name x.frame)) in
      let both = All-pop (IsLiveWaiting s a.place) a.callers.items b.callers.items (Some x) d.callers_are live.waiting in
      record {
        acts = returned f c w r ∙ ap (λ (c : List Caller). leave_to v c w) waits
            ∙ (λ i. Goes (sym frame i) (waiting_of parts s b) (sym (same_tally a b same) i));
        live = record {
          current = subst (λ (at : P). All (IsLive s at) b.current.registers.items) (sym same.place)
              (subst (All (IsLive s a.place)) (sym d.registers)
              (result_live a.place x.into (given_back a.current r) x.frame.registers.items (given_live a.place a.current r live.current) both.1));
          waiting = subst (λ (at : P). All (IsLiveWaiting s at) b.callers.items) (sym same.place) both.0;
          few = (let more : length a.callers.items ≡ length b.callers.items + 1 = ap length d.callers_are ∙ length_push b.callers.items x in omega (arith, live.few));
        };
        place = same.place;
        run = same.run;
        stays = λ stays. absurd stays;
        kept = kept_refl parts a.place s;
        writes = WritesStay_refl s;
      }
  left_acted a b r (Ends given) live d same =
      let f = current_of parts s a in
      let c = waiting_of parts s a in
      let w = world_of s a in
      record {
        acts = returned f c w r ∙ ap (λ (c : List Caller). leave_to (option_map (held f.registers) r) c w) (ap (callers_of parts s.name) d.1)
            ∙ (λ i. Over (Returned (option_map (held (map (value_of s.name) (sym d.2 i).registers.items)) (sym d.0 i)) (sym (same_tally a b same) i)));
        live = record {
          current = subst (λ (at : P). All (IsLive s at) b.current.registers.items) (sym same.place) (subst (λ (f : CallFrame R). All (IsLive s a.place) f.registers.items) (sym d.2) live.current);
          waiting = subst (λ (at : P). All (IsLiveWaiting s at) b.callers.items) (sym same.place) (subst (All (IsLiveWaiting s a.place)) (d.1 ∙ sym d.3) live.waiting);
          few = subst (λ (ws : List (Waiting R)). length ws ≤ 255) (d.1 ∙ sym d.3) live.few;
        };
        place = same.place;
        run = same.run;
        stays = λ stays. absurd stays;
        kept = kept_refl parts a.place s;
        writes = WritesStay_refl s;
      }
  left_acted a b r Next live d same = absurd d
  left_acted a b r Here live d same = absurd d
  left_acted a b r (Waits line) live d same = absurd d
  left_acted a b r (Trap kind) live d same = absurd d

  -- so does a return
  pub left_out : (f f' : CallFrame R) (callers callers' : List (Waiting R)) (r : Option Reg) (step : Step) → Left f callers r step f' callers' → IsOut step
  left_out f f' callers callers' r Switched d = tt
  left_out f f' callers callers' r (Ends given) d = tt
  left_out f f' callers callers' r Next d = absurd d
  left_out f f' callers callers' r Here d = absurd d
  left_out f f' callers callers' r (Waits line) d = tt
  left_out f f' callers callers' r (Trap kind) d = tt

-- ---- instructions that change the heap

module _ {P R : Type 0} (parts : Parts) (s t : State P R) (a : Standing P R) (live : AreLive s a) where
  written_move : (trap : Option TrapKind) (f f' : Frame) (c c' : List Caller) (w : World) → f' ≡ f → c' ≡ c → after_effect (write_end trap f.line f.registers w) f c ≡ move_of (step_of trap) f' c' w
  written_move None f f' c c' w same_frame same_callers = λ i. Goes (behind (sym same_frame i) (sym same_frame i).registers) (sym same_callers i) w
  written_move (Some kind) f f' c c' w same_frame same_callers = λ i. Over (Trapped kind (sym same_frame i).line w)

  live_after : KeepsOthers a.place s t → AreLive t a
  live_after kept = record {
    current = live_grows s t a.place kept.keeps.grows a.current.registers.items live.current;
    waiting =
        waiting_grows s t a.place kept.keeps.grows a.callers.items live.waiting;
    few = live.few;
  }

  -- a write of a field, once it is known which
  pub written_acted : (instr : Instr) (n : Name) (slot : ℕ) (r : Reg) (trap : Option TrapKind) → s.shape ≡ parts.shape
      → act parts (Some instr) (current_of parts s a) (waiting_of parts s a) (world_of s a) ≡ after_effect
      (write parts.shape n slot (held (current_of parts s a).registers r) (current_of parts s a).line (current_of parts s a).registers
      (world_of s a)) (current_of parts s a) (waiting_of parts s a)
      → FieldWritten s a.place n slot (held_in a.current r) trap t → Acted parts s a instr (step_of trap) t a
  written_acted instr n slot r trap shape is d =
      let f = current_of parts s a in
      let c = waiting_of parts s a in
      let w = world_of s a in
      record {
        acts = is ∙ ap (λ (v : Value). after_effect (write parts.shape n slot v f.line f.registers w) f c) (sym (value_held s.name a.current.registers.items r.0))
            ∙ ap (λ (o : Ending). after_effect o f c) (d.acts parts.shape shape f.line f.registers a.left a.printed.items a.run a.made)
            ∙ written_move trap f (current_of parts t a) c (waiting_of parts t a) (world_of t a)
            (frame_kept s t a.place d.kept.keeps.grows parts a.current live.current)
            (callers_kept s t a.place d.kept.keeps.grows parts a.callers.items live.waiting);
        live = live_after d.kept;
        place = refl;
        run = refl;
        stays = λ stays. refl;
        kept = d.kept;
        writes = d.writes;
      }

  pub made_acted : (f' : CallFrame R) (made : ℕ) (d : Reg) (ty : TypeNo) (step : Step) → s.shape ≡ parts.shape → IsTarget parts.shape ty
      → Made s a.place (record { run = a.run; ordinal = a.made }) a.current d.0 ty step t f' → made ≡ a.made + 1 → Acted parts s a (New d ty) step t (record a { current = f'; made = made })
  made_acted f' made d ty step shape target m more =
      let b : Standing P R = record a { current = f'; made = made } in
      let f = current_of parts s a in
      let c = waiting_of parts s a in
      let w = world_of s a in
      let n : Name = record { run = a.run; ordinal = a.made } in
      let grows = m.allocated.keeps.grows in
      let values : map (value_of t.name) f'.registers.items ≡ slice_set f.registers d.0 (ARecord n) =
      ap (map (value_of t.name)) m.registers ∙ values_set t.name a.current.registers.items d.0 (Reference m.reference)
      ∙ (λ i. slice_set (registers_kept s t a.place grows a.current.registers.items live.current i) d.0 (ARecord (m.allocated.name i))) in
      let heap : t.heap a.place ≡ with_record w.heap n (new_record parts.shape ty) = m.allocated.heap ∙ ap (λ (sh : List TypeShape). with_record (s.heap a.place) n (new_record sh ty)) shape in
      let world : world_of t b ≡ record_made parts.shape ty w =
      (λ i. record { heap = heap i; charges = a.left; printed = a.printed.items; run = a.run; made = more i; counts = m.allocated.counts i }) in
      let callers : waiting_of parts t b ≡ c = callers_kept s t a.place grows parts a.callers.items live.waiting in
      let frame : current_of parts t b ≡ record f { registers = slice_set f.registers d.0 (ARecord n) } =
      (λ i. record { procedure = procedure_of parts (m.frame.0 i); at = m.frame.1 i; registers = values i; line = m.frame.2 i }) in
      record {
        acts = ap (λ (x : Bool). after_effect (choose x (put d (ARecord (next_name w)) f.registers (record_made parts.shape ty w)) (Trapped NullTrap f.line w)) f c) (makes parts.shape ty target)
            ∙ (λ i. Goes (behind (sym frame i) (sym frame i).registers) (sym callers i) (sym world i))
            ∙ ap (λ (x : Step). move_of x (current_of parts t b) (waiting_of parts t b) (world_of t b)) (sym m.next);
        live = record {
          current = subst (All (IsLive t a.place)) (sym m.registers)
              (live_set t a.place a.current.registers.items d.0 (Reference m.reference) m.allocated.live (live_grows s t a.place grows a.current.registers.items live.current));
          waiting = waiting_grows s t a.place grows a.callers.items live.waiting;
          few = live.few;
        };
        place = refl;
        run = refl;
        stays = λ stays. m.frame.0;
        kept = record { keeps = m.allocated.keeps; others = m.allocated.others };
        writes = m.allocated.writes;
      }

-- ---- the cases of the last two

not_reference : {R : Type 0} (v : Register R) → IsPlainRegister v → (r : R) → v ≡ Reference r → ⊥
not_reference (Number n) plain r e = absurd (cc)
not_reference Null plain r e = absurd (cc)
not_reference (Reference q) plain r e = absurd plain

module _ {P R : Type 0} (parts : Parts) (s : State P R) (a : Standing P R) (live : AreLive s a) where
  -- a write to null
  pub null_acted : (o x : Reg) (slot : SlotNo) → IsPlainRegister (held_in a.current o) → Acted parts s a (Store o slot x) (Trap NullTrap) s a
  null_acted o x slot plain =
      let f = current_of parts s a in
      let c = waiting_of parts s a in
      let w = world_of s a in
      let go = λ (n : Name). write parts.shape n slot.0 (held f.registers x) f.line f.registers w in
      frame_acted parts s a live a.current (Store o slot x) (Trap NullTrap)
      (ap (λ (v : Value). after_effect (with_object v f.line w go) f c) (sym (value_held s.name a.current.registers.items o.0))
      ∙ ap (λ (e : Ending). after_effect e f c) (object_null s.name (held_in a.current o) f.line w go (not_reference (held_in a.current o) plain)))
      live.current refl

  pub stored_acted : (t : State P R) (o x : Reg) (slot : SlotNo) (trap : Option TrapKind) (v : Register R) → held_in a.current o ≡ v
      → s.shape ≡ parts.shape → Stored s a.place v slot.0 (held_in a.current x) trap t
      → (IsPlainRegister v → Acted parts s a (Store o slot x) (Trap NullTrap) t a) → Acted parts s a (Store o slot x) (step_of trap) t a
  stored_acted t o x slot trap (Number n) is shape d null = subst (λ (trap : Option TrapKind). Acted parts s a (Store o slot x) (step_of trap) t a) (sym d) (null tt)
  stored_acted t o x slot trap Null is shape d null = subst (λ (trap : Option TrapKind). Acted parts s a (Store o slot x) (step_of trap) t a) (sym d) (null tt)
  stored_acted t o x slot trap (Reference q) is shape d null =
      let f = current_of parts s a in
      let c = waiting_of parts s a in
      let w = world_of s a in
      let go = λ (n : Name). write parts.shape n slot.0 (held f.registers x) f.line f.registers w in
      written_acted parts s t a live (Store o slot x) (s.name q) slot.0 x trap shape
      (ap (λ (v : Value). after_effect (with_object v f.line w go) f c) (sym (value_held s.name a.current.registers.items o.0) ∙ ap (value_of s.name) is)) d

-- the write of an element, once it is known whether there is one
module _ {P R : Type 0} (parts : Parts) (s t : State P R) (a : Standing P R) (live : AreLive s a) (o x i : Reg) (first : SlotNo) (elements : ℕ) (shape : s.shape ≡ parts.shape) where
  abbrev indexed_write : (index : Option ℕ) → Name → Ending
  indexed_write index n = with_index index a.current.line (world_of s a)
      (λ k. write parts.shape n (first.0 + k) (held (current_of parts s a).registers x) a.current.line (current_of parts s a).registers (world_of s a))

  element_trapped : (kind : TrapKind) (v : Register R) (index : Option ℕ) → held_in a.current o ≡ v → index_of elements (number_of (held (current_of parts s a).registers i)) ≡ index
      → with_object (value_of s.name v) a.current.line (world_of s a) (indexed_write index) ≡ Trapped kind a.current.line (world_of s a) → Acted parts s a (Storex o first elements i x) (Trap kind) s a
  element_trapped kind v index is at trapped =
      let f = current_of parts s a in
      let c = waiting_of parts s a in
      frame_acted parts s a live a.current (Storex o first elements i x) (Trap kind)
      (ap (λ (v : Value). after_effect (with_object v f.line (world_of s a) (indexed_write (index_of elements (number_of (held f.registers i))))) f c)
      (sym (value_held s.name a.current.registers.items o.0) ∙ ap (value_of s.name) is)
      ∙ ap (λ (index : Option ℕ). after_effect (with_object (value_of s.name v) f.line (world_of s a) (indexed_write index)) f c) at
      ∙ ap (λ (e : Ending). after_effect e f c) trapped)
      live.current refl

  element_by : (trap : Option TrapKind) (v : Register R) (index : Option ℕ) → held_in a.current o ≡ v → index_of elements (number_of (held (current_of parts s a).registers i)) ≡ index
      → StoredAt s a.place v (option_map (λ k. first.0 + k) index) (held_in a.current x) trap t
      → (RefusesElement v (option_map (λ k. first.0 + k) index) → (step : Step) → Acted parts s a (Storex o first elements i x) step s a → Acted parts s a (Storex o first elements i x) step t a)
      → Acted parts s a (Storex o first elements i x) (step_of trap) t a
  element_by trap (Number n) index is at d kept = subst (λ (trap : Option TrapKind). Acted parts s a (Storex o first elements i x) (step_of trap) t a)
      (sym d) (kept tt (Trap NullTrap) (element_trapped NullTrap (Number n) index is at refl))
  element_by trap Null index is at d kept = subst (λ (trap : Option TrapKind). Acted parts s a (Storex o first elements i x) (step_of trap) t a)
      (sym d) (kept tt (Trap NullTrap) (element_trapped NullTrap Null index is at refl))
  element_by trap (Reference q) None is at d kept = subst (λ (trap : Option TrapKind). Acted parts s a (Storex o first elements i x) (step_of trap) t
      a) (sym d) (kept tt (Trap IndexTrap) (element_trapped IndexTrap (Reference q) None is at refl))
  element_by trap (Reference q) (Some k) is at d kept =
      let f = current_of parts s a in
      let c = waiting_of parts s a in
      written_acted parts s t a live (Storex o first elements i x) (s.name q) (first.0 + k) x trap shape
      (ap (λ (v : Value). after_effect (with_object v f.line (world_of s a) (indexed_write (index_of elements (number_of (held f.registers i))))) f c)
      (sym (value_held s.name a.current.registers.items o.0) ∙ ap (value_of s.name) is)
      ∙ ap (λ (index : Option ℕ). after_effect (indexed_write index (s.name q)) f c) at) d

  pub element_acted : (trap : Option TrapKind) → StoredAt s a.place (held_in a.current o) (slot_at first.0 elements (number_of (value_of s.name (held_in a.current i)))) (held_in a.current x) trap t
      → (RefusesElement (held_in a.current o) (slot_at first.0 elements (number_of (value_of s.name (held_in a.current i)))) → (step : Step)
      → Acted parts s a (Storex o first elements i x) step s a → Acted parts s a (Storex o first elements i x) step t a)
      → Acted parts s a (Storex o first elements i x) (step_of trap) t a
  element_acted trap d kept =
      element_by trap (held_in a.current o) (index_of elements (number_of (value_of s.name (held_in a.current i)))) refl
      (ap (λ (v : Value). index_of elements (number_of v)) (sym (value_held s.name a.current.registers.items i.0))) d kept
