-- The text of mode churn, of a seed and a size.
use Rattle.std.specs.Prelude.{ℕ, zero, suc, ◌+◌, ◌*◌, ◌%◌, List, [], ◌∷◌, ◌++◌, codes, decimal, Some}
use Rattle.flat_rules.specs.Draws.{draws, seeded}

-- slot A
abbrev pub slot : ℕ → List ℕ
slot a = codes "slot[" ++ decimal a ++ codes "]"

-- where slot A has an object, its first byte is added to the sum, and it is given up
abbrev pub give_up : ℕ → List ℕ
give_up a = codes "if(" ++ slot a ++ codes "){sum=sum+" ++ slot a ++ codes "[0];free(" ++ slot a ++ codes ");}"

-- slot A asks for B bytes
abbrev pub ask : (a b : ℕ) → List ℕ
ask a b = slot a ++ codes "=malloc(" ++ decimal b ++ codes ");"

-- where it got them, the first is C
abbrev pub write : (a c : ℕ) → List ℕ
write a c = codes "if(" ++ slot a ++ codes ")" ++ slot a ++ codes "[0]=" ++ decimal c ++ codes ";"

-- function k
abbrev pub function : (k a b c : ℕ) → List ℕ
function k a b c = codes "void f" ++ decimal k ++ codes "(void){" ++ give_up a ++ ask a b ++ write a c ++ codes "}\n"

-- the functions from k on, three draws for each: they choose its slot, how many bytes it asks for, and the first of them
abbrev pub functions : ℕ → List ℕ → List ℕ
functions k (a ∷ b ∷ c ∷ more) = function k (a % 64) (1 + b % 1000) (c % 100) ++ functions (k + 1) more
functions k draws = []

-- the call of function k
abbrev pub call : ℕ → List ℕ
call k = codes "f" ++ decimal k ++ codes "();\n"

-- the calls of so many functions from k on
abbrev pub calls : ℕ → ℕ → List ℕ
calls k zero = []
calls k (suc n) = call k ++ calls (k + 1) n

-- the text of a seed and a size: its globals, its functions, and main, which calls each once and prints the sum
unfoldable pub text : (seed size : ℕ) → List ℕ
text seed size = codes "#include <stdio.h>\n#include <stdlib.h>\nchar *slot[64];\nlong sum;\n"
    ++ functions 0 (draws (3 * size) (seeded (Some seed)))
    ++ codes "int main(void){\n"
    ++ calls 0 size
    ++ codes "for(int i=0;i<64;i++)if(slot[i])sum=sum+slot[i][0];\nprintf(\"%ld\\n\",sum);\nreturn 0;}\n"
