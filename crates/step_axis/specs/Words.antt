-- The layout of step words and of their configuration register. Assumes nothing.
use Rattle.std.specs.Prelude.{ℕ, zero, suc, ◌+◌, ◌-◌, ◌*◌, ◌/◌, ◌%◌, ◌^◌, cond, List, [], ◌∷◌, take, ℤ, pos, negsuc, neg_ℤ, Some, None, Option, ◌==◌, slice_index}
use Rattle.axis.specs.declared.currents.Current.{Current}
use Rattle.axis.specs.declared.currents.Current.TheVariants.{Off, Holding, Nominal, Maximum}
use Rattle.std.specs.Option.{option_map}
use Rattle.step_axis.specs.declared.config.Resolution.{Resolution}
use Rattle.step_axis.specs.declared.config.Resolution.TheVariants.{Five, Six, Seven, Eight}
use Rattle.step_axis.specs.declared.config.StepConfig.{StepConfig}
use Rattle.step_axis.specs.declared.config.WordCount.{WordCount}
use Rattle.step_axis.specs.declared.config.WordCount.TheVariants.{One, Two, Four}

-- how many words count in a cycle
abbrev pub word_count : WordCount → ℕ
word_count One = 1
word_count Two = 2
word_count Four = 4

-- microsteps in a step: 2 ^ (8 - r) at resolution r
abbrev pub scale : Resolution → ℕ
scale Five = 2 ^ (8 - 5)
scale Six = 2 ^ (8 - 6)
scale Seven = 2 ^ (8 - 7)
scale Eight = 2 ^ (8 - 8)

-- the field of so many bits from a bit on
abbrev pub field : ℕ → ℕ → ℕ → ℕ
field n low width = n / 2 ^ low % 2 ^ width

-- the configuration register: bits 3 and 4 are the word count, bits 5 and 6 the resolution, bit 11 is 1, all others are 0
abbrev pub count_field : ℕ → Option WordCount
count_field zero = Some One
count_field (suc zero) = Some Two
count_field (suc (suc zero)) = Some Four
count_field (suc (suc (suc n))) = None

abbrev pub resolution_field : ℕ → Resolution
resolution_field zero = Five
resolution_field (suc zero) = Six
resolution_field (suc (suc zero)) = Seven
resolution_field (suc (suc (suc n))) = Eight

abbrev pub config_from : ℤ → Option StepConfig
config_from (pos n) = cond (n == 2 ^ 11 + field n 3 2 * 2 ^ 3 + field n 5 2 * 2 ^ 5) (option_map (λ w. record { words = w; resolution = resolution_field (field n 5 2) }) (count_field (field n 3 2))) None
config_from (negsuc n) = None

-- what the register means at first, at 0x0800
abbrev pub first_config : StepConfig
first_config = record { words = One; resolution = Five }

-- the number of a current code
abbrev pub code_number : Current → ℕ
code_number Off = 0
code_number Holding = 1
code_number Nominal = 2
code_number Maximum = 3

abbrev pub code_from : ℕ → Current
code_from zero = Off
code_from (suc zero) = Holding
code_from (suc (suc zero)) = Nominal
code_from (suc (suc (suc n))) = Maximum

-- a word gives signed steps, size in bits 0 to 12 and negative if bit 13 is set, and a current code, bits 14 and 15
abbrev pub steps : ℕ → ℤ
steps w = cond (field w 13 1 == 1) (neg_ℤ (pos (field w 0 13))) (pos (field w 0 13))

abbrev pub code : ℕ → Current
code w = code_from (field w 14 2)

-- the word i of a motor's eight bytes, low byte first
abbrev pub word : List ℕ → ℕ → ℕ
word orders i = slice_index orders (2 * i) + slice_index orders (2 * i + 1) * 256

abbrev pub words : List ℕ → List ℕ
words orders = word orders 0 ∷ word orders 1 ∷ word orders 2 ∷ word orders 3 ∷ []

-- the words that count, in order, and the last of them
abbrev pub counted : StepConfig → List ℕ → List ℕ
counted config orders = take (word_count config.words) (words orders)

abbrev pub last_word : StepConfig → List ℕ → ℕ
last_word config orders = word orders (word_count config.words - 1)
