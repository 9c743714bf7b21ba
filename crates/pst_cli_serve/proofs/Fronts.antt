-- The image at the front of an input of which some bytes were read.
use Rattle.std.proofs.Common.{◌≡◌, ℕ, ◌+◌, ◌<◌, ◌≤◌, ◌⊎◌, inl, inr, false, List, [], ◌∷◌, ◌++◌, length, take, drop, refl, sym, ap, ◌∙◌, subst, arith, Option, Some, None}
use Rattle.std.proofs.Common.{append-nil, append_assoc, length-append}
use Rattle.std.specs.Prelude.{min}
use Rattle.std.proofs.lemmas.List.{take_at, drop_at, drop_all}
use Rattle.std.proofs.Math.Seq.{drop-append_seam}
use Rattle.pst_io.specs.declared.room.TheConstants.{MOST_SERVED, MOST_READ}
use Rattle.pst_io.specs.Text.{lines_of, whole_lines}
use Rattle.pst_io.specs.Input.{InputState, Hands, Gives, IsOver, IsCutOff, bytes_read}
use Rattle.pst_io.proofs.Handing.{hands_then}
use Rattle.pst_program.specs.declared.program.Program.{Program}
use Rattle.pst_typing.specs.Declarations.{NamedProgram}
use Rattle.pst_cli_scripts.specs.Input.{bytes_of}
use Rattle.pst_cli_scripts.specs.Reading.{IsNear}
use Rattle.pst_cli_serving.specs.Rows.{HasReadOf}
use Rattle.pst_cli_serving.proofs.Handed.{fresh, size, behind_text, taken, has_read}
use Rattle.pst_cli_serving.proofs.Counting.{bytes_of-append, lines_least, lines_front}
use Rattle.pst_image_form.specs.declared.parts.ImageParts.{ImageParts}
use Rattle.pst_image_form.specs.Bytes.{HasForm, image_bytes}
use Rattle.pst_image_rules.specs.declared.rule.Rule.{Rule}
use Rattle.pst_image_unpack.specs.Unpacked.{IsAccepted, FailsFirst, HasNoForm}
use Rattle.pst_image_front.specs.Front.{promised, IsShort, IsFront}
use Rattle.pst_image_front.proofs.Sizes.{image_front}
use Rattle.pst_cli_serve.specs.Serving.{ReadsBehind, ReadsFront}

-- ---- an image at the front

-- an image has as many bytes as were promised
pub promised_length : (Over : Type 0) (bytes : List ℕ) (p : ImageParts) (len : ℕ) → IsFront Over bytes → HasForm bytes p len → len ≡ length bytes
promised_length Over bytes p len front form =
    let is : promised bytes ≡ len = image_front bytes p len form in
    elim front [
      | inl f ↦ sym is ∙ ap promised (sym (append-nil bytes)) ∙ f []
      | inr s ↦ absurd (omega (arith, s.1, is, form.length_is, ap length form.bytes_are, length-append (image_bytes p) (drop len bytes)))
    ]

-- it stands there too where more stands behind it
pub form_grown : (bytes more : List ℕ) (p : ImageParts) (len : ℕ) → HasForm bytes p len → HasForm (bytes ++ more) p len
form_grown bytes more p len form =
    let image = image_bytes p in
    let back = drop len bytes in
    let split : bytes ++ more ≡ image ++ (back ++ more) = ap (λ (l : List ℕ). l ++ more) form.bytes_are ∙ append_assoc image back more in
    let behind : drop len (bytes ++ more) ≡ back ++ more = ap (drop len) split ∙ drop_at image (back ++ more) len (sym form.length_is) in
    record { fits = form.fits; length_is = form.length_is; bytes_are = split ∙ ap (λ (l : List ℕ). image ++ l) (sym behind) }

pub accepted_grown : (bytes more : List ℕ) (p : ImageParts) (named : NamedProgram) (len : ℕ) → IsAccepted bytes p named len → IsAccepted (bytes ++ more) p named len
accepted_grown bytes more p named len a = record { form = form_grown bytes more p len a.form; text = a.text; rules = a.rules }

-- and its script is what stands behind it
pub rest_behind : (bytes more : List ℕ) (len : ℕ) → len ≡ length bytes → drop len (bytes ++ more) ≡ more
rest_behind bytes more len is = ap (λ (l : ℕ). drop l (bytes ++ more)) is ∙ drop-append_seam bytes more

-- bytes that do not begin with an image do not where more stands behind them
no_form_grown : (bytes more : List ℕ) → ((behind : List ℕ) → promised (bytes ++ behind) ≡ length bytes) → HasNoForm bytes → HasNoForm (bytes ++ more)
no_form_grown bytes more f none p len form =
    let image = image_bytes p in
    let long : len ≡ length bytes = sym (image_front (bytes ++ more) p len form) ∙ f more in
    let same : bytes ≡ image =
    sym (take_at bytes more len (sym long)) ∙ ap (take len) form.bytes_are ∙ take_at image (drop len (bytes ++ more)) len (sym form.length_is) in
    none p len record {
      fits = form.fits;
      length_is = form.length_is;
      bytes_are = same ∙ sym (append-nil image) ∙ ap (λ (l : List ℕ). image ++ l) (sym (drop_all len bytes (omega (arith, long))));
    }

pub fails_grown : (Over : Type 0) (bytes more : List ℕ) (rule : Rule) → IsFront Over bytes → (Over → more ≡ []) → FailsFirst bytes rule → FailsFirst (bytes ++ more) rule
fails_grown Over bytes more rule front end fails =
    elim fails [
      | inl bad ↦ elim front [
        | inl f ↦ inl (bad.0, no_form_grown bytes more f bad.1)
        | inr s ↦ subst (λ (l : List ℕ). FailsFirst l rule) (sym (ap (λ (l : List ℕ). bytes ++ l) (end s.0) ∙ append-nil bytes)) (inl bad)
      ]
      | inr later ↦ (let (p, len, form, failed) = later in inr (p, len, form_grown bytes more p len form, failed))
    ]

-- ---- how far reading came

module _ (input rest bytes : List ℕ) (a : InputState) (h : Hands (fresh MOST_SERVED) (Some input) a (Some rest) bytes) (most : bytes_read a ≤ MOST_SERVED) where
  pub reads_front : IsFront (IsOver a) bytes → (IsOver a → rest ≡ []) → IsNear a → ReadsFront input (Some rest)
  reads_front front end near =
      let all : input ≡ bytes ++ (a.held ++ rest) = behind_text MOST_SERVED input rest bytes a h in
      let here = size MOST_SERVED input rest bytes a h in
      let joined = length-append bytes a.held in
      record {
        count = bytes_read a;
        read = has_read MOST_SERVED input rest bytes a h most;
        near = elim front [
          | inl f ↦ (let is : promised input ≡ length bytes = ap promised all ∙ f (a.held ++ rest) in omega (arith, is, here, joined, near))
          | inr s ↦
              (let none : a.held ++ rest ≡ [] = ap (λ (l : List ℕ). l ++ rest) s.0.0 ∙ end s.0 in
              let is : promised input ≡ promised bytes = ap promised (all ∙ ap (λ (l : List ℕ). bytes ++ l) none ∙ append-nil bytes) in
              omega (arith, is, s.1, here, joined, ap length s.0.0))
        ];
      }

  -- where reading stopped for want of memory
  pub reads_some : ((more : List ℕ) → length bytes < promised (bytes ++ more)) → length a.held ≤ MOST_READ → ReadsFront input (Some rest)
  reads_some few piece =
      let all : input ≡ bytes ++ (a.held ++ rest) = behind_text MOST_SERVED input rest bytes a h in
      let is : promised input ≡ promised (bytes ++ (a.held ++ rest)) = ap promised all in
      record {
        count = bytes_read a;
        read = has_read MOST_SERVED input rest bytes a h most;
        near = omega (arith, is, few (a.held ++ rest), size MOST_SERVED input rest bytes a h, length-append bytes a.held, piece);
      }

-- lines behind the image were handed out
module _ (input left rest bytes : List ℕ) (a c : InputState) (h : Hands (fresh MOST_SERVED) (Some input) a (Some left) bytes)
    (given : List (List ℕ)) (g : Gives a (Some left) c (Some rest) given) where
  pub hands_both : Hands (fresh MOST_SERVED) (Some input) c (Some rest) (bytes ++ g.text)
  hands_both = hands_then (fresh MOST_SERVED) (Some input) a (Some left) c (Some rest) bytes g.text h g.hands

  pub pending_was : a.held ++ left ≡ g.text ++ (c.held ++ rest)
  pending_was =
      ap (λ (l : List ℕ). a.held ++ l) g.hands.consumed ∙ sym (append_assoc a.held g.hands.bytes rest) ∙ ap (λ (l : List ℕ). l ++ rest) g.hands.kept
      ∙ append_assoc g.text c.held rest

  -- so far, and less than one read beyond
  module _ (len : ℕ) (is : len ≡ length bytes) (near : IsNear c) (most : bytes_read c ≤ MOST_SERVED) where
    abbrev pub rest_lines : List (List ℕ)
    rest_lines = lines_of (c.held ++ rest)

    first : lines_of (drop len input) ≡ given ++ rest_lines
    first =
        ap (λ (l : List ℕ). lines_of (drop len l)) (behind_text MOST_SERVED input left bytes a h) ∙ ap lines_of (rest_behind bytes (a.held ++ left) len is) ∙ g.told

    read : bytes_read c ≡ length bytes + (length g.text + length c.held)
    read = let s = size MOST_SERVED input rest (bytes ++ g.text) c hands_both in omega (arith, s, length-append (bytes ++ g.text) c.held, length-append bytes g.text)

    total : length input ≡ length bytes + length (a.held ++ left)
    total = ap length (behind_text MOST_SERVED input left bytes a h) ∙ length-append bytes (a.held ++ left)

    split : length (a.held ++ left) ≡ length g.text + length (c.held ++ rest)
    split = ap length pending_was ∙ length-append g.text (c.held ++ rest)

    by_pending : (l : List ℕ) → c.held ++ rest ≡ l → ReadsBehind len given input (Some rest)
    by_pending [] none =
        let all : bytes_of (lines_of (a.held ++ left)) ≡ bytes_of given = ap bytes_of (g.told ∙ ap (λ (l : List ℕ). given ++ lines_of l) none ∙ append-nil given) in
        let least = lines_least (a.held ++ left) in
        let held : length c.held + length rest ≡ 0 = sym (length-append c.held rest) ∙ ap length none in
        record {
          behind = rest_lines;
          first = first;
          count = bytes_read c;
          read = has_read MOST_SERVED input rest (bytes ++ g.text) c hands_both most;
          reached = omega (arith, is, read, total, split, held, all, least, ap length none);
          near = omega (arith, is, read, total, split, held, all, least, ap length none);
        }
    by_pending (b ∷ l) some =
        let all : bytes_of (lines_of (a.held ++ left)) ≡ bytes_of given + bytes_of rest_lines = ap bytes_of g.told ∙ bytes_of-append given rest_lines in
        let front : bytes_of (lines_of (a.held ++ left)) ≡ length g.text + bytes_of rest_lines =
        ap (λ (x : List ℕ). bytes_of (lines_of x)) pending_was ∙ lines_front g.text (c.held ++ rest) (omega (arith, ap length some)) in
        record {
          behind = rest_lines;
          first = first;
          count = bytes_read c;
          read = has_read MOST_SERVED input rest (bytes ++ g.text) c hands_both most;
          reached = omega (arith, is, read, all, front);
          near = omega (arith, is, read, all, front, near);
        }

    pub reads_behind : ReadsBehind len given input (Some rest)
    reads_behind = by_pending (c.held ++ rest) refl

  -- where reading was cut off, these are all whole lines behind the image of what was read
  pub whole_behind : (len : ℕ) → len ≡ length bytes → IsCutOff c → whole_lines (drop len (take (bytes_read c) input)) ≡ given
  whole_behind len is off =
      let seen : take (bytes_read c) input ≡ bytes ++ (g.text ++ c.held) = taken MOST_SERVED input rest (bytes ++ g.text) c hands_both ∙ append_assoc bytes g.text c.held in
      ap (λ (l : List ℕ). whole_lines (drop len l)) seen ∙ ap whole_lines (rest_behind bytes (g.text ++ c.held) len is ∙ sym g.hands.kept ∙ sym (append-nil (a.held ++ g.hands.bytes)))
      ∙ g.whole off.1 [] ∙ ap (λ (l : List (List ℕ)). given ++ l) (ap whole_lines (append-nil c.held) ∙ off.0) ∙ append-nil given

  pub seen_behind : take (bytes_read c) input ≡ bytes ++ (g.text ++ c.held)
  seen_behind = taken MOST_SERVED input rest (bytes ++ g.text) c hands_both ∙ append_assoc bytes g.text c.held
