-- Laws of lists made by a rule, and of rows.
use Rattle.std.proofs.Common.{ℕ, zero, suc, ◌+◌, ◌*◌, ◌/◌, ◌%◌, ◌≤◌, ◌<◌, ◌≡◌, refl, ap, sym, ◌∙◌, List, le_of_suc-le-suc, not-suc-le-zero}
use Rattle.std.proofs.Common.{div-add-mod', mod-lt, div-lt_iff_lt-mul, arith, length, get_or, replicate, ext_get_or}
use Rattle.std.proofs.lemmas.List.{length-replicate, get_or-replicate}
use lib.Arith.{digits_lt, digits_div, digits_mod}
use Rattle.sheet.specs.Terms.{Terms}
use Rattle.rows.specs.Tables.{tab, entry, grid}
use Rattle.rows.specs.Rows.{row_length, node_in, row_of}

pub length_tab : (n : ℕ) (f : ℕ → ℕ) → length (tab n f) ≡ n
unfolding tab
length_tab zero f = refl
length_tab (suc n) f = ap suc (length_tab n (λ k. f (suc k)))

pub get_d_tab : (n : ℕ) (f : ℕ → ℕ) (i : ℕ) → i < n → get_or (tab n f) i 0 ≡ f i
unfolding tab
get_d_tab zero f i h = absurd (not-suc-le-zero h)
get_d_tab (suc n) f zero h = refl
get_d_tab (suc n) f (suc i) h = get_d_tab n (λ k. f (suc k)) i (le_of_suc-le-suc h)

-- a list whose entries follow a rule is the rule's list
pub is_tab : (l : List ℕ) (n : ℕ) (f : ℕ → ℕ) → length l ≡ n → ((i : ℕ) → i < n → get_or l i 0 ≡ f i) → l ≡ tab n f
is_tab l n f e h =
    ext_get_or 0 l (tab n f) (e ∙ sym (length_tab n f))
    (λ i q. let q' : i < n = rw e at q in h i q' ∙ sym (get_d_tab n f i q'))

-- ---- rows of w counts

-- a rule on tranches and counts as a rule on places
unfoldable pub flat : ℕ → (ℕ → ℕ → ℕ) → ℕ → ℕ
flat w f i = f (i / w) (i % w)

pub flat_at : (w : ℕ) (f : ℕ → ℕ → ℕ) (j k : ℕ) → k < w → flat w f (j * w + k) ≡ f j k
unfolding flat
flat_at w f j k q = λ t. f (digits_div j q t) (digits_mod j q t)

pub grid_flat : (r w : ℕ) (f : ℕ → ℕ → ℕ) → grid r w f ≡ tab (r * w) (flat w f)
unfolding grid flat
grid_flat r w f = refl

pub length_grid : (r w : ℕ) (f : ℕ → ℕ → ℕ) → length (grid r w f) ≡ r * w
length_grid r w f = ap length (grid_flat r w f) ∙ length_tab _ _

pub entry_grid : (r w : ℕ) (f : ℕ → ℕ → ℕ) (j k : ℕ) → j < r → k < w → entry w (grid r w f) j k ≡ f j k
unfolding entry
entry_grid r w f j k h q =
    ap (λ (l : List ℕ). get_or l (j * w + k) 0) (grid_flat r w f)
    ∙ get_d_tab (r * w) (flat w f) (j * w + k) (digits_lt h q)
    ∙ flat_at w f j k q

-- what holds of every tranche and count holds of every place
pub every : (P : ℕ → Type 0) (r w : ℕ) (rows : List ℕ) → 0 < w → ((j k : ℕ) → j < r → k < w → P (entry w rows j k)) → (i : ℕ) → i < r * w → P (get_or rows i 0)
unfolding entry
every P r w rows z h i q =
    let e : i / w * w + i % w ≡ i = div-add-mod' i w in
    let p : P (get_or rows (i / w * w + i % w) 0) = h (i / w) (i % w) ((div-lt_iff_lt-mul z).1 q) (mod-lt i z) in
    rw e at p

-- rows whose entries follow a rule are the rule's rows
pub is_grid : (l : List ℕ) (r w : ℕ) (f : ℕ → ℕ → ℕ) → 0 < w → length l ≡ r * w → ((j k : ℕ) → j < r → k < w → entry w l j k ≡ f j k) → l ≡ grid r w f
unfolding entry flat
is_grid l r w f z e h =
    is_tab l (r * w) (flat w f) e
    (λ i q.
    ap (λ (n : ℕ). get_or l n 0) (sym (div-add-mod' i w))
    ∙ h (i / w) (i % w) ((div-lt_iff_lt-mul z).1 q) (mod-lt i z))
    ∙ sym (grid_flat r w f)

pub grid_cong : (r w : ℕ) (f g : ℕ → ℕ → ℕ) → 0 < w → ((j k : ℕ) → j < r → k < w → f j k ≡ g j k) → grid r w f ≡ grid r w g
grid_cong r w f g z h = is_grid (grid r w f) r w g z (length_grid r w f) (λ j k p q. entry_grid r w f j k p q ∙ h j k p q)

-- ---- the rows of a sheet

pub length_row : (x : Terms) (f : ℕ → ℕ → ℕ) → length (row_of x f) ≡ row_length x
unfolding row_of
length_row x f = length_grid _ _ f

pub node_row : (x : Terms) (f : ℕ → ℕ → ℕ) (j k : ℕ) → j ≤ x.tranches → k ≤ x.names → node_in x (row_of x f) j k ≡ f j k
unfolding row_of node_in
node_row x f j k p q = entry_grid _ _ f j k (omega arith) (omega arith)

pub row_cong : (x : Terms) (f g : ℕ → ℕ → ℕ) → ((j k : ℕ) → j ≤ x.tranches → k ≤ x.names → f j k ≡ g j k) → row_of x f ≡ row_of x g
unfolding row_of
row_cong x f g h = grid_cong _ _ f g (omega arith) (λ j k p q. h j k (omega arith) (omega arith))

-- a row whose nodes follow a rule is the rule's row
pub is_row : (x : Terms) (l : List ℕ) (f : ℕ → ℕ → ℕ) → length l ≡ row_length x → ((j k : ℕ) → j ≤ x.tranches → k ≤ x.names → node_in x l j k ≡ f j k) → l ≡ row_of x f
unfolding row_of node_in
is_row x l f e h = is_grid l _ _ f (omega arith) e (λ j k p q. h j k (omega arith) (omega arith))

-- one number throughout
pub filled_tab : (n v : ℕ) (f : ℕ → ℕ) → ((k : ℕ) → v ≡ f k) → replicate n v ≡ tab n f
filled_tab n v f h = is_tab (replicate n v) n f (length-replicate n v) (λ i l. get_or-replicate n i v 0 l ∙ h i)
