-- A text of note.
use Rattle.std.specs.Prelude.{◌≡◌, ◌++◌, codes, refl}
use Rattle.std.specs.Fmt.{digits}
use Rattle.run_churn.specs.Text.{text}

pub three_functions : text 1 3 ≡ codes "#include <stdio.h>\n#include <stdlib.h>\nchar *slot[64];\nlong sum;\n"
    ++ codes "void f0(void){if(slot[6]){sum=sum+slot[6][0];free(slot[6]);}slot[6]=malloc(759);if(slot[6])slot[6][0]=13;}\n"
    ++ codes "void f1(void){if(slot[43]){sum=sum+slot[43][0];free(slot[43]);}slot[43]=malloc(52);if(slot[43])slot[43][0]=27;}\n"
    ++ codes "void f2(void){if(slot[34]){sum=sum+slot[34][0];free(slot[34]);}slot[34]=malloc(420);if(slot[34])slot[34][0]=12;}\n"
    ++ codes "int main(void){\nf0();\nf1();\nf2();\nfor(int i=0;i<64;i++)if(slot[i])sum=sum+slot[i][0];\nprintf(\"%ld\\n\",sum);\nreturn 0;}\n"
unfolding text digits
three_functions = refl
