-- Lists of calls of our engine on small sheets, with what they are answered and leave, so that the promise is not empty.
-- Proved in proofs/Examples.antt.
use Rattle.std.specs.Prelude.{ℕ, ◌+◌, ◌≡◌, refl, true, false, List, [], ◌∷◌, ◌++◌, map, replicate, get_or, set, pos, negsuc}
use Rattle.register.specs.Cut.{may_be_left}
use Rattle.register.specs.Events.{blank_register}
use Rattle.sheet.specs.Terms.{Terms}
use Rattle.tree.specs.Sheet.{WholePool, spanning}
use Rattle.tree.specs.Trials.{worked, uneven_pool, topped_pool, two_periods, worked_earning, uneven_earning}
use Rattle.sheet.specs.Brought.{Brought, brought}
use Rattle.sheet.specs.Limits.{Limits}
use Rattle.walk.specs.declared.Walk.{Walk}
use Rattle.rows.specs.Rows.{Rows}
use Rattle.walk.specs.Answers.{fresh, Said}
use Rattle.figures.specs.Nodes.{jump}
use Rattle.walk.specs.CallRules.{WalkResult, says}
use Rattle.walk.specs.OurEngine.{ours}
use Rattle.walk.specs.CallLists.{own_rows, other_rows, Call, issue, withdraw, opening, back, value, State, call_result, Catalogue, Run, blank_state, end}
use Rattle.walk.specs.Accuracy.{Walked, held_d, held_a}
use Rattle.walk.specs.Risk.{hedging}
use Rattle.walk.specs.Power.{Operation, call, ratio, forward, operate, Event, returned, cut_in, state_after_events, ever_withdrew}
use Rattle.walk.specs.Promise.{blank_run}

-- ---- sheets, rows and lists

-- Every number brings the same sheet.
abbrev pub catalogue_of : Terms → List ℕ → Catalogue
catalogue_of x coupons = record { sheet = λ y. record { sheet = x; number = y; coupons = coupons }; bears = λ y. refl }

abbrev pub constant_rows : ℕ → ℕ → Rows
constant_rows n y = record { defaults = replicate n y; premiums = replicate n y }

-- The deck of document 01, and rows for it with something in them.
abbrev pub deck : Catalogue
deck = catalogue_of worked (1_000_000 ∷ 500_000 ∷ [])

abbrev pub used : Rows
used = constant_rows 6 1

-- The number 7 live, and its walk at the step i.
abbrev pub live : List ℕ
live = set blank_register 7 0xA5

abbrev pub walk_at : ℕ → Walk
walk_at i = record { «open» = true; number = 7; position = i }

abbrev pub to_root : List Call
to_root = issue 7 ∷ opening 7 (other_rows used) ∷ back 7 own_rows 2 ∷ []

abbrev pub refused : ℕ → Said
refused n = record { number = n; values = [] }

-- Calls, each with what it is answered.
abbrev pub Script : Type 0
Script = List (Call × Said)

-- What calls are answered one after the other.
unfoldable pub answers_of : (ℕ → Brought) → State → List Call → List Said
answers_of sheets s [] = []
answers_of sheets s (c ∷ l) = (call_result ours sheets s c).said ∷ answers_of sheets (call_result ours sheets s c).state l

-- From a blank register, a fresh walk and rows with something in them.
abbrev pub Plays : Catalogue → Script → Type 0
Plays k l = answers_of k.sheet (blank_state used) (map (λ t. t.0) l) ≡ map (λ t. t.1) l

-- ---- the worked deck

abbrev pub deck_script : Script
deck_script =
    (issue 7, says []) ∷ (opening 7 (other_rows used), says []) ∷ (back 7 own_rows 2, says (pos 0 ∷ []))
    ∷ (value 7 own_rows 0 0, says (pos 54_300_000 ∷ pos 218_700_000 ∷ pos 324_300_000_000_000 ∷ []))
    ∷ (value 7 own_rows 1 0, says (pos 59_700_000 ∷ pos 805_500_000 ∷ pos 194_250_000_000_000 ∷ []))
    ∷ (withdraw 7, says []) ∷ (value 7 own_rows 0 0, refused 9) ∷ []

-- Where the walk stands at the root.
abbrev pub root : State
root = end ours (blank_run deck used to_root)

-- The hedge ratio there.
abbrev pub ratio_on : Rows → ℕ → ℕ → WalkResult
ratio_on l j k = ours.ratio (deck.sheet 7) root.register root.walk l j k

pub record Deck : Type 0 where
  pub within : Limits (deck.sheet 7)
  pub listing : Plays deck deck_script
  pub walked : Walked ours (blank_run deck used to_root) 7 2
  pub rows : root.rows
      ≡ record {
        defaults = 54_300_000 ∷ 0 ∷ 0 ∷ 59_700_000 ∷ 103_200_000 ∷ 0 ∷ [];
        premiums = 218_700_000 ∷ 0 ∷ 0 ∷ 805_500_000 ∷ 288_000_000 ∷ 0 ∷ [];
      }
  pub tranche_ratio : (ratio_on root.rows 0 0).said ≡ says (pos 724_386 ∷ [])
  pub index_ratio : (ratio_on root.rows 1 0).said ≡ says (pos 1_000_000 ∷ [])
  pub distribution : ours.forward (deck.sheet 7) root.register (replicate 3 5) 2
      ≡ record { said = says []; row = 810_000_000 ∷ 170_000_000 ∷ 20_000_000 ∷ [] }

-- ---- two tranches beside the one that spans them

-- The uneven pool with its tranche parted in two.
abbrev pub parted : Catalogue
parted =
    catalogue_of
    (record {
      names = 3;
      steps = 2;
      tranches = 2;
      recovery = 350_000_000;
      attachments = 0 ∷ 150_000_000 ∷ 300_000_000 ∷ [];
      starts = 1 ∷ [];
      hazards = 123_456_789 ∷ 234_567_891 ∷ 345_678_912 ∷ [];
      discounts = 987_654_321 ∷ 976_543_210 ∷ [];
      accruals = 250_000_000 ∷ 253_000_000 ∷ [];
      elapsed = 0 ∷ 0 ∷ [];
    }) (3 ∷ 2 ∷ 1 ∷ [])

abbrev pub whole : Catalogue
whole = catalogue_of uneven_pool (7 ∷ 1 ∷ [])

-- Each in a list of its own, walked as far: step by step, and at once.
abbrev pub parted_run : Run
parted_run =
    blank_run parted used
    (issue 5 ∷ opening 5 (other_rows (constant_rows 12 3)) ∷ back 5 own_rows 1 ∷ value 5 own_rows 2 0 ∷ back 5 own_rows 1 ∷ [])

abbrev pub whole_run : Run
whole_run = blank_run whole used (issue 7 ∷ opening 7 (other_rows (constant_rows 8 4)) ∷ back 7 own_rows 2 ∷ [])

-- At the count 0 the legs of the two miss those of the one by 1 unit and by 3, of the 6 and the 9 that three times the distances allow.
pub record TranchesAdd : Type 0 where
  pub parted_within : Limits (parted.sheet 5)
  pub spans : (whole.sheet 7).sheet ≡ spanning (parted.sheet 5).sheet
  pub parted_walked : Walked ours parted_run 5 2
  pub whole_walked : Walked ours whole_run 7 2
  pub parted_rows : (end ours parted_run).rows
      ≡ record {
        defaults = 33_945_720 ∷ 0 ∷ 0 ∷ 0 ∷ 17_414_536 ∷ 33_736_800 ∷ 0 ∷ 0 ∷ 55_084_334 ∷ 104_660_228 ∷ 121_238_823 ∷ 0 ∷ [];
        premiums = 60_587_125 ∷ 0 ∷ 0 ∷ 0 ∷ 67_249_478 ∷ 27_663_400 ∷ 0 ∷ 0 ∷ 459_568_458 ∷ 267_701_193 ∷ 88_677_498 ∷ 0 ∷ [];
      }
  pub whole_rows : (end ours whole_run).rows
      ≡ record {
        defaults = 51_360_257 ∷ 33_736_800 ∷ 0 ∷ 0 ∷ 55_084_334 ∷ 104_660_228 ∷ 121_238_823 ∷ 0 ∷ [];
        premiums = 127_836_600 ∷ 27_663_400 ∷ 0 ∷ 0 ∷ 459_568_458 ∷ 267_701_193 ∷ 88_677_498 ∷ 0 ∷ [];
      }
  pub defaults : held_d ours parted_run (parted.sheet 5).sheet 0 0 + held_d ours parted_run (parted.sheet 5).sheet 1 0 + 1
      ≡ held_d ours whole_run uneven_pool 0 0
  pub premiums : held_a ours parted_run (parted.sheet 5).sheet 0 0 + held_a ours parted_run (parted.sheet 5).sheet 1 0
      ≡ held_a ours whole_run uneven_pool 0 0 + 3

-- ---- two tranches of the whole pool beside the index

abbrev pub topped : Catalogue
topped = catalogue_of (topped_pool 350_000_000 300_000_000) (0 ∷ 0 ∷ 0 ∷ [])

abbrev pub topped_run : Run
topped_run = blank_run topped used (issue 7 ∷ opening 7 (other_rows (constant_rows 12 0)) ∷ back 7 own_rows 1 ∷ [])

-- A default comes for sure, so each entry is what is outstanding at the next count.
pub record IndexAdds : Type 0 where
  pub within : Limits (topped.sheet 7)
  pub points : WholePool (topped.sheet 7).sheet
  pub walked : Walked ours topped_run 7 1
  pub rows : (end ours topped_run).rows.premiums
      ≡ 83_333_334 ∷ 0 ∷ 0 ∷ 0 ∷ 583_333_334 ∷ 333_333_334 ∷ 0 ∷ 0 ∷ 666_666_668 ∷ 333_333_334 ∷ 0 ∷ 0 ∷ []
  pub premiums : held_a ours topped_run (topped.sheet 7).sheet 0 0 + held_a ours topped_run (topped.sheet 7).sheet 1 0
      ≡ held_a ours topped_run (topped.sheet 7).sheet 2 0

-- ---- two periods

abbrev pub changing : Catalogue
changing = catalogue_of two_periods (1_000_000 ∷ 500_000 ∷ [])

abbrev pub periods_run : Run
periods_run = blank_run changing used (issue 7 ∷ opening 7 own_rows ∷ back 7 own_rows 1 ∷ back 7 own_rows 2 ∷ [])

-- Walked over the start of the second, and forward over it.
pub record PeriodsWalked : Type 0 where
  pub within : Limits (changing.sheet 7)
  pub walked : Walked ours periods_run 7 3
  pub defaults : (end ours periods_run).rows.defaults
      ≡ 260_500_000 ∷ 308_000_000 ∷ 0 ∷ 260_500_000 ∷ 308_000_000 ∷ 0 ∷ []
  pub distribution : ours.forward (changing.sheet 7) live (replicate 3 5) 3
      ≡ record { said = says []; row = 567_000_000 ∷ 345_000_000 ∷ 88_000_000 ∷ [] }

-- ---- premium earned up to a default

abbrev pub earning : Catalogue
earning = catalogue_of worked_earning (1_000_000 ∷ 500_000 ∷ [])

abbrev pub earning_script : Script
earning_script =
    (issue 7, says []) ∷ (opening 7 (other_rows used), says []) ∷ (back 7 own_rows 2, says (pos 0 ∷ []))
    ∷ (value 7 own_rows 0 0, says (pos 54_300_000 ∷ pos 251_925_000 ∷ pos 291_075_000_000_000 ∷ []))
    ∷ (value 7 own_rows 1 0, says (pos 59_700_000 ∷ pos 867_625_000 ∷ pos 163_187_500_000_000 ∷ [])) ∷ []

abbrev pub earning_run : Run
earning_run = blank_run earning used to_root

-- The deck with elapsed fractions: its default legs are the deck's, its premium legs are worth more.
pub record ElapsedWalked : Type 0 where
  pub within : Limits (earning.sheet 7)
  pub listing : Plays earning earning_script
  pub walked : Walked ours earning_run 7 2
  pub defaults : (end ours earning_run).rows.defaults ≡ root.rows.defaults
  pub premiums : (end ours earning_run).rows.premiums ≡ 251_925_000 ∷ 0 ∷ 0 ∷ 867_625_000 ∷ 392_000_000 ∷ 0 ∷ []

-- The uneven pool with them.
abbrev pub unevenly : Catalogue
unevenly = catalogue_of uneven_earning (7 ∷ 1 ∷ [])

abbrev pub unevenly_run : Run
unevenly_run = blank_run unevenly used (issue 7 ∷ opening 7 (other_rows (constant_rows 8 0)) ∷ back 7 own_rows 2 ∷ [])

-- ---- a negative jump on walked rows

-- No name defaults from the count 0, and from the count 1 one does for sure. What the last step pays is discounted to nearly nothing.
abbrev pub paid_early : Catalogue
paid_early =
    catalogue_of
    (record {
      names = 2;
      steps = 2;
      tranches = 1;
      recovery = 900_000_000;
      attachments = 0 ∷ 50_000_000 ∷ [];
      starts = 1 ∷ [];
      hazards = 0 ∷ 1_000_000_000 ∷ [];
      discounts = 1_000_000_000 ∷ 1 ∷ [];
      accruals = 0 ∷ 1_000_000_000 ∷ [];
      elapsed = 1_000_000_000 ∷ 0 ∷ [];
    }) (0 ∷ 10_000_000 ∷ [])

abbrev pub early_run : Run
early_run = blank_run paid_early used to_root

-- From the count 1 a default into the first step pays a year's premium at once; from the count 0 all premium falls due in the last step, worth
-- nearly nothing. So a default raises the index's premium leg by more than it raises what defaults pay: the index's jump is negative, and with it
-- the hedge ratio of a tranche without coupon. Where no fraction is paid neither can be (`NeverNegative` of walk's specs/Risk.antt).
pub record NegativeWalked : Type 0 where
  pub within : Limits (paid_early.sheet 7)
  pub walked : Walked ours early_run 7 2
  pub defaults : (end ours early_run).rows.defaults ≡ 0 ∷ 0 ∷ 0 ∷ 0 ∷ 50_000_000 ∷ 0 ∷ []
  pub premiums : (end ours early_run).rows.premiums ≡ 0 ∷ 0 ∷ 0 ∷ 1 ∷ 500_000_000 ∷ 0 ∷ []
  pub tranche_jump : jump (paid_early.sheet 7) (end ours early_run).rows 0 0 ≡ pos 500_000_000_000_000
  pub index_jump : jump (paid_early.sheet 7) (end ours early_run).rows 1 0 ≡ negsuc 3_999_999_989_999_999
  pub ratio : (hedging ours early_run 7 0 0).said ≡ says (negsuc 124_999 ∷ [])

-- ---- refusals

-- A list in which most calls are refused.
abbrev pub refused_script : Script
refused_script =
    (opening 7 (other_rows used), refused 10) ∷ (withdraw 7, refused 10) ∷ (issue 7, says []) ∷ (issue 7, refused 17) ∷ (back 7 own_rows 1, refused 11)
    ∷ (opening 7 (other_rows (constant_rows 5 0)), refused 2) ∷ (opening 7 (other_rows used), says []) ∷ (back 7 own_rows 3, refused 13)
    ∷ (value 7 own_rows 2 0, refused 14) ∷ (value 7 own_rows 0 3, refused 14) ∷ (value 7 (other_rows (constant_rows 7 0)) 0 0, refused 2)
    ∷ (value 7 (other_rows (constant_rows 6 1)) 0 0, refused 12)
    ∷ (issue 9, says []) ∷ (back 9 own_rows 1, refused 11) ∷ (withdraw 9, says []) ∷ (withdraw 9, refused 9) ∷ (issue 9, refused 9)
    ∷ (opening 9 own_rows, refused 9) ∷ (back 9 own_rows 1, refused 9) ∷ (back 7 own_rows 0, says (pos 2 ∷ [])) ∷ (back 7 own_rows 2, says (pos 0 ∷ []))
    ∷ (back 7 own_rows 1, refused 13) ∷ (value 7 own_rows 0 0, says (pos 54_300_000 ∷ pos 218_700_000 ∷ pos 324_300_000_000_000 ∷ [])) ∷ []

-- An open of a sheet of one step and one tranche, mostly of one name.
abbrev pub opened_with : ℕ → ℕ → List ℕ → ℕ → ℕ → ℕ → ℕ → ℕ → Said
opened_with names recovery attachments hazard discount accrual elapsed coupon =
    (ours.opening
    (brought (record { names = names; steps = 1; tranches = 1; recovery = recovery; number = 7 })
    attachments (1 ∷ []) (hazard ∷ []) (discount ∷ []) (accrual ∷ []) (elapsed ∷ []) (coupon ∷ 0 ∷ []))
    live fresh (constant_rows 4 0)).said

pub record Refusals : Type 0 where
  pub listing : Plays deck refused_script
  pub inside : opened_with 1 1_000_000_000 (0 ∷ 1_000_000_000 ∷ []) 1_000_000_000 1 1 1 10_000_000 ≡ says []
  pub pool : opened_with 0 0 (0 ∷ 5 ∷ []) 0 1 1 0 0 ≡ refused 1
  pub length : opened_with 1 0 (0 ∷ 5 ∷ 9 ∷ []) 0 1 1 0 0 ≡ refused 2
  pub recovery : opened_with 1 1_000_000_001 (0 ∷ 5 ∷ []) 0 1 1 0 0 ≡ refused 3
  pub flat : opened_with 1 0 (5 ∷ 5 ∷ []) 0 1 1 0 0 ≡ refused 4
  pub above : opened_with 1 0 (0 ∷ 1_000_000_001 ∷ []) 0 1 1 0 0 ≡ refused 4
  pub hazard : opened_with 1 0 (0 ∷ 5 ∷ []) 1_000_000_001 1 1 0 0 ≡ refused 5
  pub discount : opened_with 1 0 (0 ∷ 5 ∷ []) 0 0 1 0 0 ≡ refused 6
  pub accrual : opened_with 1 0 (0 ∷ 5 ∷ []) 0 1 0 1 0 ≡ refused 7
  pub elapsed : opened_with 1 0 (0 ∷ 5 ∷ []) 0 1 1 2 10_000_001 ≡ refused 21
  pub coupon : opened_with 1 0 (0 ∷ 5 ∷ []) 0 1 1 0 10_000_001 ≡ refused 8
  pub first : opened_with 1 1_000_000_001 (5 ∷ 5 ∷ []) 1_000_000_001 0 0 1 10_000_001 ≡ refused 3

-- ---- hedge ratios on rows lent from elsewhere

-- Rows within their ceilings that no walk makes, with d and e at the count 0 as the default legs of tranche and index,
-- and a and b at the count 1 as their premium legs.
abbrev pub elsewhere : ℕ → ℕ → ℕ → ℕ → Rows
elsewhere d e a b = record { defaults = d ∷ 0 ∷ 0 ∷ e ∷ 0 ∷ 0 ∷ []; premiums = 0 ∷ a ∷ 0 ∷ 0 ∷ b ∷ 0 ∷ [] }

pub record Ratios : Type 0 where
  pub negative : (ratio_on (elsewhere 300_000_000 0 1_000_000_000 0) 0 0).said ≡ says (negsuc 333_332 ∷ [])
  pub both_negative : (ratio_on (elsewhere 300_000_000 600_000_000 1_000_000_000 0) 0 0).said ≡ says (pos 333_333 ∷ [])
  pub half_away : (ratio_on (elsewhere 299_999_999 298_000_000 0 0) 0 0).said ≡ says (pos 1 ∷ [])
  pub half_away_below : (ratio_on (elsewhere 300_000_000 298_000_000 10 0) 0 0).said ≡ says (negsuc 0 ∷ [])
  pub no_minus_zero : (ratio_on (elsewhere 300_000_000 600_000_000 0 0) 0 0).said ≡ says (pos 0 ∷ [])
  pub flat : (ratio_on (elsewhere 0 300_000_000 0 0) 0 0).said ≡ refused 15
  pub off_scale : (ratio_on (elsewhere 0 300_000_000 0 1) 0 0).said ≡ refused 16
  pub last_count : (ratio_on root.rows 0 2).said ≡ refused 14

-- ---- power cuts

-- The number 7 is issued, and the power fails in its withdrawal: the byte b is found.
abbrev pub cut_withdrawal : ℕ → List Event
cut_withdrawal b = returned deck (call (issue 7)) ∷ cut_in (call (withdraw 7)) b fresh used ∷ []

abbrev pub cut_issue : ℕ → List Event
cut_issue b = cut_in (call (issue 7)) b fresh used ∷ []

abbrev pub left : List Event → State
left l = state_after_events ours (blank_state used) l

-- What a call is answered after events.
abbrev pub said_after : List Event → Operation → Said
said_after l o = (operate ours deck.sheet (left l) o).said

-- A withdrawal that found the number live still, is made again and returns; then the power fails in the issue of another number.
abbrev pub again : List Event
again = cut_withdrawal 0xA5 ++ (returned deck (call (withdraw 7)) ∷ cut_in (call (issue 8)) 0xB7 fresh used ∷ [])

-- The number 7 is issued and opened.
abbrev pub started : List Event
started = returned deck (call (issue 7)) ∷ returned deck (call (opening 7 own_rows)) ∷ []

-- A hedge ratio and a forward of it.
abbrev pub ratio_asked : Operation
ratio_asked = ratio 7 own_rows 0 0

abbrev pub forward_asked : Operation
forward_asked = forward 7 (replicate 3 5) 2

-- Both return, and the power fails in both.
abbrev pub asked : List Event
asked = returned deck ratio_asked ∷ returned deck forward_asked ∷ cut_in ratio_asked 0xA5 fresh used ∷ cut_in forward_asked 0xA5 fresh used ∷ []

-- So before the number is withdrawn, and after.
abbrev pub asked_twice : List Event
asked_twice = started ++ (asked ++ (returned deck (call (withdraw 7)) ∷ asked))

pub record Cuts : Type 0 where
  pub can_be : may_be_left 0xA5 0x00 0x84 ≡ true
  pub byte : get_or (left (cut_withdrawal 0x84)).register 7 0 ≡ 0x84
  pub gone : said_after (cut_withdrawal 0x84) (call (opening 7 own_rows)) ≡ refused 9
  pub not_issued : said_after (cut_withdrawal 0x84) (call (issue 7)) ≡ refused 9
  pub not_returned : ever_withdrew ours (blank_state used) (cut_withdrawal 0x84) 7 ≡ false
  pub still_can_be : may_be_left 0xA5 0x00 0xA5 ≡ true
  pub still_live : said_after (cut_withdrawal 0xA5) (call (opening 7 own_rows)) ≡ says []
  pub returned : ever_withdrew ours (blank_state used) again 7 ≡ true
  pub shut : said_after again (call (opening 7 own_rows)) ≡ refused 9
  pub other_byte : get_or (left again).register 8 0 ≡ 0xB7
  pub other_shut : said_after again (call (issue 8)) ≡ refused 9
  pub issue_can_be : may_be_left 0xFF 0xA5 0xFF ≡ true
  pub issued_anew : said_after (cut_issue 0xFF) (call (issue 7)) ≡ says []
  pub issued_at_last : said_after (cut_issue 0xA5) (call (issue 7)) ≡ refused 17
  pub ratio_live : said_after started ratio_asked ≡ says (pos 1_000_000 ∷ [])
  pub forward_live : said_after (started ++ asked) forward_asked ≡ says []
  pub asked_withdrawn : ever_withdrew ours (blank_state used) asked_twice 7 ≡ true
  pub asked_byte : get_or (left asked_twice).register 7 0 ≡ 0x00
  pub ratio_shut : said_after asked_twice ratio_asked ≡ refused 9
  pub forward_shut : said_after asked_twice forward_asked ≡ refused 9
