-- The code of an operand is as long as its size says.
use Rattle.std.proofs.Common.{◌≡◌, ℕ, ◌+◌, List, [], ◌∷◌, ◌++◌, length, refl, ap, ◌∙◌, arith, length-append}
use Rattle.pst_base.specs.declared.names.Kind.TheVariants.{Int}
use Rattle.pst_base.specs.declared.names.Op.{Op}
use Rattle.pst_base.specs.declared.names.Op.TheVariants.{Add, Sub, Mul, Div, Rem, Equal, NotEqual, Less, LessEqual, Greater, GreaterEqual, And, Or}
use Rattle.pst_base.specs.declared.shape.TypeShape.{TypeShape}
use Rattle.pst_program.specs.Syntax.{Expr, Number, Null, Local, Root, Parens, Load, LoadIndexed, Negate, Not, Binary}
use Rattle.pst_code.specs.declared.instr.Reg.{Reg}
use Rattle.pst_code.specs.declared.instr.Instr.{Instr}
use Rattle.pst_code.specs.declared.instr.Instr.TheVariants as code
use Rattle.pst_translation.specs.Code.{Temp, reg, slot_no, register, arithmetic, expr_code}
use Rattle.pst_codegen_expressions.specs.Sizes.{expr_size}

arithmetic_length : (operator : Op) (d a b : Reg) → length (arithmetic operator d a b) ≡ length (arithmetic operator (reg 0) (reg 0) (reg 0))
arithmetic_length Add d a b = refl
arithmetic_length Sub d a b = refl
arithmetic_length Mul d a b = refl
arithmetic_length Div d a b = refl
arithmetic_length Rem d a b = refl
arithmetic_length Equal d a b = refl
arithmetic_length NotEqual d a b = refl
arithmetic_length Less d a b = refl
arithmetic_length LessEqual d a b = refl
arithmetic_length Greater d a b = refl
arithmetic_length GreaterEqual d a b = refl
arithmetic_length And d a b = refl
arithmetic_length Or d a b = refl

pub expr_length : (shape : List TypeShape) (temp : Temp) (e : Expr) (k : ℕ) → length (expr_code shape temp e k) ≡ expr_size e
expr_length shape temp (Number n) k = refl
expr_length shape temp (Null ty) k = refl
expr_length shape temp (Local x) k = refl
expr_length shape temp (Root slot) k = refl
expr_length shape temp (Parens e) k = expr_length shape temp e k
expr_length shape temp (Load e slot kind) k =
    length-append (expr_code shape temp e k) (code.Load (temp k kind) (register shape temp e k) (slot_no slot) ∷ []) ∙ ap (λ n. n + 1) (expr_length shape temp e k)
expr_length shape temp (LoadIndexed e slot elements i kind) k =
    let first : List Instr = expr_code shape temp e k in
    let index : List Instr = expr_code shape temp i (k + 1) in
    let check : Instr = code.Check (register shape temp e k) in
    let last : List Instr = code.Loadx (temp k kind) (register shape temp e k) (slot_no slot) elements (register shape temp i (k + 1)) ∷ [] in
    let whole : length (first ++ (check ∷ (index ++ last))) ≡ length first + length (check ∷ (index ++ last)) = length-append first (check ∷ (index ++ last)) in
    let behind : length (index ++ last) ≡ length index + length last = length-append index last in
    omega (arith, whole, behind, expr_length shape temp e k, expr_length shape temp i (k + 1))
expr_length shape temp (Negate e) k =
    length-append (expr_code shape temp e k) (code.Neg (temp k (Int)) (register shape temp e k) ∷ []) ∙ ap (λ n. n + 1) (expr_length shape temp e k)
expr_length shape temp (Not e) k = refl
expr_length shape temp (Binary operator a b) k =
    let last : List Instr = arithmetic operator (temp k Int) (register shape temp a k) (register shape temp b (k + 1)) in
    length-append (expr_code shape temp a k) (expr_code shape temp b (k + 1) ++ last)
    ∙ ap (λ n. length (expr_code shape temp a k) + n) (length-append (expr_code shape temp b (k + 1)) last)
    ∙ ap (λ n. n + (length (expr_code shape temp b (k + 1)) + length last)) (expr_length shape temp a k)
    ∙ ap (λ n. expr_size a + (n + length last)) (expr_length shape temp b (k + 1))
    ∙ ap (λ n. expr_size a + (expr_size b + n)) (arithmetic_length operator _ _ _)
