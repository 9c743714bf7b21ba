use Rattle.std.proofs.Common.{◌↔◌, ℕ, ◌<◌, refl, sym, subst, Result, Ok, Err, length}
use Rattle.std.specs.Prelude.{IfOk, IsTrue}
use Rattle.std.specs.Option.{option_map}
use Rattle.std.proofs.lemmas.List.{get_or_default}
use Rattle.pst_image_rules.specs.Nodes.{no_node, node_at}
use Rattle.pst_image_rules.specs.Chains.{IsRootNode, IsNamed, AreChained}
use Rattle.pst_image_rules.specs.Heads.{AreMarked, IsMarking, HaveOwnNames}
use Rattle.pst_image_rules.proofs.Marks.{never}
use Rattle.pst_image_rules.proofs.Ways.{chained, linked, heads_apart}
use Rattle.pst_image_rules.proofs.chains.are_chained.Goals as goal

if_ok : {A E : Type 0} (P Q : A → Type 0) (r : Result A E) → ((x : A) → P x → Q x) → IfOk r P → IfOk r Q
if_ok P Q (Ok x) f h = f x h
if_ok P Q (Err e) f h = tt

pub returns-in_default : goal.returns-in_default
returns-in_default c =
    let none = subst (λ o. IsMarking c.args.nodes.now (option_map (λ m. m.items) o)) c.in_default.is c.in_ok-marks.ensures in
    (λ t. absurd (never t), λ chains. absurd (none (linked _ _ _ c.requires.lives chains)))

pub returns : goal.returns
returns c =
    let found = subst (λ o. IsMarking c.args.nodes.now (option_map (λ m. m.items) o)) c.in-Some.is c.in_ok-marks.ensures in
    let marked = subst (λ m. AreMarked c.args.nodes.now (length c.args.nodes.now) m) (sym c.deref.ensures.value) found.1 in
    let root : IsRootNode (node_at c.args.nodes.now 0) = subst IsRootNode
    (get_or_default c.args.nodes.now 0 c.index-nodes-0.result no_node c.requires.some)
    (subst IsRootNode c.index-nodes-0.is (c.if-not-is_root.ensures.0 refl)) in
    let named : (i : ℕ) → i < length c.args.nodes.now → IsNamed c.args.places c.args.next_run (node_at c.args.nodes.now i) = c.if-not-are_named.ensures.0 refl in
    if_ok (λ own. IsTrue own ↔ HaveOwnNames c.in_ok-heads_of.field-0.items) (λ own. IsTrue own ↔ AreChained c.args.places c.args.next_run c.args.nodes.now) c.have_own_names.result
    (λ own both. (
      λ t. chained c.args.places c.args.next_run c.args.nodes.now c.deref.result.now c.in_ok-heads_of.field-0.items c.requires.lives root named found.0 marked c.in_ok-heads_of.ensures (both.0 t),
      λ chains. both.1 (heads_apart c.args.places c.args.next_run c.args.nodes.now c.deref.result.now c.in_ok-heads_of.field-0.items chains marked c.in_ok-heads_of.ensures),
    ))
    c.have_own_names.ensures
